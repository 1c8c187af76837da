use Rattle.std.proofs.Common.{◌≡◌, ◌||◌, ap, sym, ◌∙◌, arith, cond, Option, is_some}
use Rattle.std.specs.Map.{lookup}
use Rattle.iris_name.specs.Names.{same_name}
use Rattle.iris_name.specs.NameLaws.{same_name_equiv, same_name-true}
use Rattle.iris_name.specs.declared.name.Name.{Name}
use Rattle.iris_cache.specs.declared.draft.Change.{Change}
use Rattle.iris_cache.specs.Applied.{bare, hung}
use Rattle.iris_cache.proofs.Drafts.{among, among-more, among-all, among-fresh, place-held}
use Rattle.iris_cache.proofs.Landing.{hang-step, hung-all}
use Rattle.iris_cache.proofs.cache.Cache.hang.Goals as goal

pub hang_one-requires : goal.hang_one-requires
hang_one-requires c = λ h is.
    let es = c.args.changes.now.entries in
    let i = c.loop-i.i in
    let n : Name = c.in-Some.name.now in
    let v : Change = c.in-Some.change.now in
    let at = sym c.in-Some.ensures.entry in
    let fresh = among-fresh es i n v c.requires.once at in
    let held-at = place-held es i n v c.requires.once at in
    let old : bare c.loop-i.self n ≡ bare c.args.self.now n = c.loop-i.invariant.nodes n ∙ ap (λ b. cond b (hung (lookup (same_name n) es) (bare c.args.self.now n)) (bare c.args.self.now n)) fresh in
    c.requires.alone n h (ap (λ (o : Option Change). is_some o) held-at) (sym old ∙ is)

pub loop-i-preserved : goal.loop-i-preserved
loop-i-preserved c =
    let es = c.args.changes.now.entries in
    let i = c.loop-i.i in
    let n : Name = c.in-Some.name.now in
    let v : Change = c.in-Some.change.now in
    let at = sym c.in-Some.ensures.entry in
    let fresh = among-fresh es i n v c.requires.once at in
    let held-at = place-held es i n v c.requires.once at in
    record {
      nodes = λ q.
          let x = bare c.args.self.now q in
          let o = lookup (same_name q) es in
          c.hang_one.ensures.nodes q
          ∙ hang-step (among i es q) (same_name n q) v o x (bare c.loop-i.self q)
          (λ s. (ap (among i es) (sym (same_name-true n q s)) ∙ fresh, ap (λ (k : Name). lookup (same_name k) es) (sym (same_name-true n q s)) ∙ held-at))
          (c.loop-i.invariant.nodes q)
          ∙ ap (λ b. cond (among i es q || b) (hung o x) x) (same_name_equiv.symm n q)
          ∙ ap (λ b. cond b (hung o x) x) (sym (among-more es i n v q at));
      room = c.hang_one.ensures.room ∙ c.loop-i.invariant.room;
    }

pub returns-clause-nodes : goal.returns-clause-nodes
returns-clause-nodes c = λ q.
    let es = c.args.changes.now.entries in
    let end = c.loop-i-test.false in
    let l = c.len-i-end.ensures.len in
    let x = bare c.args.self.now q in
    let o = lookup (same_name q) es in
    c.loop-i.invariant.nodes q ∙ ap (λ b. cond b (hung o x) x) (among-all es c.loop-i.i q (omega (arith, end, l))) ∙ hung-all o x
