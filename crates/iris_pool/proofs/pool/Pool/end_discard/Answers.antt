use Rattle.std.proofs.Common.{◌≡◌, ◌&&◌, ◌∙◌, ap, cond, sym, subst, not, false, Some}
use Rattle.std.specs.List.{list_any}
use Rattle.iris_desk.specs.AtDesks.{is_doomed}
use Rattle.iris_invariant.specs.Agrees.{Out}
use Rattle.iris_invariant.specs.Events.{Discarded}
use Rattle.iris_name.specs.Names.{same_name}
use Rattle.iris_name.specs.NameLaws.{same_name-refl}
use Rattle.iris_pool.specs.Changes.{HoldsAlike}
use Rattle.iris_pool.specs.Parts.{ended_node, ended_page}
use Rattle.iris_pool.specs.Pool.{PoolState}
use Rattle.iris_pool.specs.View.{out_seen, pool_view}
use Rattle.iris_pool.proofs.ByName.{ended_dirty, ended_page_dirty}
use Rattle.iris_pool.proofs.Ended.{Ended, ended_alike, ended_apart, ended_happens, ended_kept, ended_pool, ended_seen}
use Rattle.iris_pool.proofs.EndsOver.{ends_over, undoomed, undoomed_here}
use Rattle.iris_pool.proofs.Happenings.{cell_doomed, discarded, same_dirty}
use Rattle.iris_pool.proofs.OutSeen.{seen_at}
use Rattle.iris_pool.proofs.pool.Pool.end_discard.Goals as goal

abbrev before : goal.Joined-out → PoolState
before c = record { nodes = c.self.inside.cache; pages = c.self.inside.blocks; desks = c.self.inside.desks }

abbrev after : goal.Joined-out → PoolState
after c = record { nodes = c.finish.new.cache; pages = c.finish.new.blocks; desks = c.undoom_if.new.desks }

ended : (c : goal.Joined-out) → Ended c.args.who c.args.name.now false (before c) (after c)
ended c = record {
  nodes = c.finish.ensures.nodes;
  pages = c.finish.ensures.pages;
  node_places = λ m ne. ap (list_any (same_name m)) c.finish.ensures.node_places;
  page_places = λ m ne. ap (list_any (same_name m)) c.finish.ensures.page_places;
  ends = ends_over c.args.who false c.args.name.now c.self.inside.desks c.end-out.new.desks c.undoom_if.new.desks c.end-out.ensures.ends c.undoom_if.ensures.desks;
  doomed = λ m ne. undoomed c.is_clean-clean.result (same_name c.args.name.now m) (is_doomed c.end-out.new.desks m) (is_doomed c.undoom_if.new.desks m) (c.undoom_if.ensures.doomed m) ne ∙ ap (list_any (same_name m)) c.end-out.ensures.doomed;
}

pub invariant_of-self : goal.invariant_of-self
invariant_of-self c = ended_pool c.args.who c.args.name.now false (before c) (after c) (ended c) c.self.invariant

pub returns-clause-discarded : goal.returns-clause-discarded
returns-clause-discarded c = λ key.
    let who = c.args.who in
    let n = c.args.name.now in
    let ok = c.args.ok in
    let p = before c in
    let q = after c in
    subst (λ (v : PoolState). (o : Out) → out_seen key v.desks n ≡ Some o → Discarded n o ok (pool_view key v) (pool_view key q)) c.self.view_is
    (λ o at.
    (let is = seen_at key p.desks n who c.end-out.result o c.end-out.ensures.out at in
    let clean : c.is_clean-clean.result ≡ (ok && not o.touched) = c.is_clean-clean.ensures ∙ ap (λ b. ok && not b) (sym (ap (λ (z : Out). z.touched) is)) in
    let e = ended c in
    let h = ended_happens who n false p q e in
    let was : ((pool_view key p).cell n).doomed ≡ is_doomed p.desks n = cell_doomed n _ _ _ _ in
    let now : ((pool_view key q).cell n).doomed ≡ is_doomed q.desks n = cell_doomed n _ _ _ _ in
    let left : is_doomed q.desks n ≡ cond (ok && not o.touched) false (is_doomed p.desks n) =
    undoomed_here c.is_clean-clean.result (same_name n n) (is_doomed c.end-out.new.desks n) (is_doomed q.desks n) (c.undoom_if.ensures.doomed n) (same_name-refl n)
    ∙ (ap (cond c.is_clean-clean.result false) (ap (list_any (same_name n)) c.end-out.ensures.doomed) ∙ ap (λ b. cond b false (is_doomed p.desks n)) clean) in
    discarded key n p q (ended_apart who n false p q e) (ended_kept who n false p q e) false h (ended_seen who n false p q e key) o ok
    (same_dirty key n (ended_node false) (ended_page false) p q (ended_dirty, ended_page_dirty) h)
    (now ∙ (left ∙ ap (cond (ok && not o.touched) false) (sym was)))))

pub returns-clause-alike : goal.returns-clause-alike
returns-clause-alike c = subst (λ (v : PoolState). HoldsAlike v (after c)) c.self.view_is (ended_alike c.args.who c.args.name.now false (before c) (after c) (ended c))
