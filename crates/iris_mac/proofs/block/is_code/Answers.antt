use Rattle.std.proofs.Common.{arith, get_or, ap, eq-eqb}
use Rattle.std.proofs.lemmas.Bool.{eqb-true}
use Rattle.std.proofs.lemmas.Grind.{same_number_lists}
use Rattle.iris_mac.proofs.Differences.{same_below_more, nothing_more}
use Rattle.iris_mac.proofs.block.is_code.Goals as goal

pub loop-i-preserved : goal.loop-i-preserved
loop-i-preserved c = record {
  same = same_below_more c.args.bytes.now c.args.code.now c.loop-i.differences c.loop-i.i c.loop-i.invariant.same;
  none = λ all. nothing_more _ _ _ (c.loop-i.invariant.none (λ k h. all k (omega arith))) (all c.loop-i.i (omega arith));
}

pub returns : goal.returns
returns c = (
  λ yes. same_number_lists _ _ (omega arith) (λ k h. c.loop-i.invariant.same (eqb-true _ _ yes) k (omega arith)),
  λ same. eq-eqb c.loop-i.differences 0 (c.loop-i.invariant.none (λ k h. ap (λ xs. get_or xs k 0) same)),
)
