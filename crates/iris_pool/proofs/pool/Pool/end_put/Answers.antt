use Rattle.std.proofs.Common.{◌≡◌, ◌&&◌, ◌∙◌, ap, sym, subst, not, true, false, Some}
use Rattle.std.specs.List.{list_any}
use Rattle.iris_invariant.specs.Agrees.{Out}
use Rattle.iris_invariant.specs.Events.{Stored}
use Rattle.iris_name.specs.Names.{same_name}
use Rattle.iris_pool.specs.Changes.{HoldsAlike}
use Rattle.iris_pool.specs.Pool.{PoolState}
use Rattle.iris_pool.specs.View.{out_seen, pool_view}
use Rattle.iris_pool.proofs.Ended.{Ended, ended_alike, ended_apart, ended_happens, ended_kept, ended_pool, ended_seen}
use Rattle.iris_pool.proofs.Happenings.{stored}
use Rattle.iris_pool.proofs.OutSeen.{seen_at}
use Rattle.iris_pool.proofs.PutEnds.{put_dirty}
use Rattle.iris_pool.proofs.pool.Pool.end_put.Goals as goal

abbrev before : goal.Joined-out → PoolState
before c = record { nodes = c.self.inside.cache; pages = c.self.inside.blocks; desks = c.self.inside.desks }

abbrev after : goal.Joined-out → PoolState
after c = record { nodes = c.finish.new.cache; pages = c.finish.new.blocks; desks = c.end-out.new.desks }

ended : (c : goal.Joined-out) → Ended c.args.who c.args.name.now c.is_clean-clean.result (before c) (after c)
ended c = record {
  nodes = c.finish.ensures.nodes;
  pages = c.finish.ensures.pages;
  node_places = λ m ne. ap (list_any (same_name m)) c.finish.ensures.node_places;
  page_places = λ m ne. ap (list_any (same_name m)) c.finish.ensures.page_places;
  ends = c.end-out.ensures.ends;
  doomed = λ m ne. ap (list_any (same_name m)) c.end-out.ensures.doomed;
}

pub invariant_of-self : goal.invariant_of-self
invariant_of-self c = ended_pool c.args.who c.args.name.now c.is_clean-clean.result (before c) (after c) (ended c) c.self.invariant

-- the end is clean where what is seen is untouched, and it was answered ok
module _ (c : goal.Joined-out) (o : Out) (clean : c.is_clean-clean.result ≡ (c.args.ok && not o.touched)) where
  so : Ended c.args.who c.args.name.now (c.args.ok && not o.touched) (before c) (after c)
  so = subst (λ b. Ended c.args.who c.args.name.now b (before c) (after c)) clean (ended c)

pub returns-clause-stored : goal.returns-clause-stored
returns-clause-stored c = λ key.
    let who = c.args.who in
    let n = c.args.name.now in
    let ok = c.args.ok in
    let p = before c in
    let q = after c in
    subst (λ (v : PoolState). (o : Out) → out_seen key v.desks n ≡ Some o → (o.touched ≡ false → ((pool_view key v).cell n).settled ≡ true) → Stored n o ok (pool_view key v) (pool_view key q)) c.self.view_is
    (λ o at settled.
    (let is = seen_at key p.desks n who c.end-out.result o c.end-out.ensures.out at in
    let clean : c.is_clean-clean.result ≡ (ok && not o.touched) = c.is_clean-clean.ensures ∙ ap (λ b. ok && not b) (sym (ap (λ (z : Out). z.touched) is)) in
    let e = so c o clean in
    let b = ok && not o.touched in
    let h = ended_happens who n b p q e in
    stored key n p q (ended_apart who n b p q e) (ended_kept who n b p q e) b h (ended_seen who n b p q e key) o ok (ap (list_any (same_name n)) c.end-out.ensures.doomed)
    (put_dirty key n p q o ok c.self.invariant at settled h)))

pub returns-clause-alike : goal.returns-clause-alike
returns-clause-alike c = subst (λ (v : PoolState). HoldsAlike v (after c)) c.self.view_is (ended_alike c.args.who c.args.name.now c.is_clean-clean.result (before c) (after c) (ended c))
