use Rattle.std.proofs.Common.{◌≡◌, ◌∙◌, sym, arith, true, false}
use Rattle.std.proofs.lemmas.Bool.{not-true, not-false}
use Rattle.iris_blocks.specs.Groups.{group_of, is_in_three}
use Rattle.iris_blocks.proofs.Grouping.{entry_at}
use Rattle.iris_blocks.proofs.Regrouping.{grouped_end, grouped_kept, grouped_joined}
use Rattle.iris_blocks.proofs.groups.regroup.Goals as goal
use Rattle.iris_blocks.proofs.groups.regroup.Goals.{then-not-is_kept_at, else-not-is_kept_at}

pub loop-i-preserved : goal.loop-i-preserved
loop-i-preserved c =
    let inv = c.loop-i.invariant in
    let es = c.loop-i.pages.entries in
    let i = c.loop-i.i in
    let t = c.loop-i-test.true in
    let l = c.len-i-end.ensures.len in
    let n = inv.count in
    let e = entry_at es i (omega (arith, t, l, n)) in
    let kept = c.is_kept_at.ensures e.0.0 e.0.1 e.1 in
    elim c.if-not-is_kept_at.branch [
      | then-not-is_kept_at w ↦ (let loose : is_in_three (group_of e.0.1) ≡ true = not-false (is_in_three (group_of e.0.1)) (sym kept ∙ w.if-not-is_kept_at.true) in
          let j = w.join in
          let a = inv.spare in let b = j.ensures.spare in
          rw (w.pages-is, w.ends-is) (record {
            grouped = grouped_joined es c.loop-i.ends i inv.grouped e.0 e.1 j.new.pages.entries j.new.end j.result j.ensures.joins loose;
            same = λ q. j.ensures.same q ∙ inv.same q;
            count = j.ensures.count ∙ inv.count;
            spare = omega (arith, a, b);
            unique = λ u. j.ensures.unique (inv.unique u);
          }))
      | else-not-is_kept_at w ↦ (let last : is_in_three (group_of e.0.1) ≡ false = not-true (is_in_three (group_of e.0.1)) (sym kept ∙ w.if-not-is_kept_at.false) in
          rw (w.pages-is, w.ends-is) (record {
            grouped = grouped_kept es c.loop-i.ends i inv.grouped e.0 e.1 last;
            same = inv.same;
            count = inv.count;
            spare = inv.spare;
            unique = inv.unique;
          }))
    ]

pub returns-clause-grouped : goal.returns-clause-grouped
returns-clause-grouped c =
    let t = c.loop-i-test.false in
    let l = c.len-i-end.ensures.len in
    let n = c.loop-i.invariant.count in
    grouped_end c.loop-i.pages.entries c.loop-i.ends c.loop-i.i c.loop-i.invariant.grouped (omega (arith, t, l, n))
