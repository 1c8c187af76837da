-- What is out is given up, and the pool holds the same.
use Rattle.std.proofs.Common.{refl, ◌∙◌}
use Rattle.iris_file_rules.specs.FileTable.{files}
use Rattle.iris_file_rules.specs.Rules.{file_rules}
use Rattle.iris_invariant.proofs.Bounds.{others_mark_nothing}
use Rattle.iris_invariant.proofs.EventLaws.{withdrawals_keep}
use Rattle.iris_invariant.proofs.ParentLaws.{parents_stay}
use Rattle.iris_standing.specs.Standing.{with_pool, standing_view, leads_to}
use Rattle.iris_standing.specs.Quiet.{WithdrawalsGoOn}
use Rattle.iris_standing.proofs.CarriedOver.{carried_alike, kept_before}

pub withdrawals_go_on : WithdrawalsGoOn
withdrawals_go_on opened past s p n b alike a = carried_alike opened past past s p a (record {
  table = refl;
  alike = alike;
  agrees = withdrawals_keep (files s.keys) (file_rules s.keys) opened past (standing_view s) (standing_view (with_pool p s)) n b a.agrees;
  parents = (parents_stay (files s.keys)).ends leads_to past past n (standing_view s) (standing_view (with_pool p s)) a.parents b.rest (λ q. refl) b.out (λ r. b.resident ∙ r);
  evidence = λ w q e. a.evidence w q (kept_before n (standing_view s) (standing_view (with_pool p s)) b.rest b.pins w q e);
  fewer = others_mark_nothing.withdraws n (standing_view s) (standing_view (with_pool p s)) b;
})
