-- A caller asks: nothing else changes.
use Rattle.std.proofs.Common.{refl, ap, sym, ◌∙◌}
use Rattle.iris_file_rules.specs.FileTable.{files}
use Rattle.iris_file_rules.specs.Rules.{file_rules}
use Rattle.iris_invariant.proofs.Bounds.{others_mark_nothing}
use Rattle.iris_invariant.proofs.EventLaws.{asks_keep}
use Rattle.iris_standing.specs.Standing.{with_pool, standing_view}
use Rattle.iris_standing.specs.Quiet.{AsksGoOn}
use Rattle.iris_standing.proofs.CarriedOver.{carried_alike, same_holds}

pub asks_go_on : AsksGoOn
asks_go_on opened past s p who b nodes pages a = carried_alike opened past past s p a (record {
  table = refl;
  alike = same_holds s.pool p nodes pages;
  agrees = asks_keep (files s.keys) (file_rules s.keys) opened past (standing_view s) (standing_view (with_pool p s)) who b a.agrees;
  parents = λ n q o x u out doing live l. ap (λ c. c.resident) (b.cell q) ∙ a.parents n q o x u (ap (λ c. c.out) (sym (b.cell n)) ∙ out) doing live l;
  evidence = λ w n e. a.evidence w n (sym (b.kept w n) ∙ e);
  fewer = others_mark_nothing.asks who (standing_view s) (standing_view (with_pool p s)) b;
})
