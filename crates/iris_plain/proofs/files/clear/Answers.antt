use Rattle.std.proofs.Common.{rules, ◌∙◌, ap}
use Rattle.std.specs.Prelude.{not}
use Rattle.std.proofs.lemmas.Fn.{filter_same}
use Rattle.iris_plain.specs.Routes.{is_at_or_under}
use Rattle.iris_plain.specs.Entries.{kind_at}
use Rattle.iris_plain.proofs.EntryLaws.{look_filter}
use Rattle.iris_plain.proofs.files.clear.Goals as goal

pub returns : goal.returns
returns c = λ q. ap (λ es. kind_at es q) (filter_same _ (λ e. not (is_at_or_under c.args.names.now e.path)) _ (λ x b f h. search rules) _ _ c.retain.ensures.filtered) ∙ look_filter c.args.names.now _ q
