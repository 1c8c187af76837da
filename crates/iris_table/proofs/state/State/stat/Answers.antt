use Rattle.std.proofs.Common.{ℕ, List, sym, ◌∙◌, ap}
use Rattle.iris_name.specs.Paths.{names_of}
use Rattle.iris_plain.specs.Checks.{is_directory_seen, size_of, unresolved}
use Rattle.iris_plain.proofs.StepLaws.{right}
use Rattle.iris_name.specs.declared.request.Reply.TheVariants.{Stat as StatIs}
use Rattle.iris_rows.specs.Changes.{seen_in}
use Rattle.iris_table.specs.Served.{table_in}
use Rattle.iris_rows.proofs.ViewByPath.{met_same}
use Rattle.iris_table.proofs.state.State.stat.Goals as goal

pub returns : goal.returns
returns c = let t = table_in c.args.self.now in
    let s = c.seen-here.ensures ∙ ap (seen_in t) c.names.ensures in
    let v = s ∙ sym (ap (λ (f : List (List ℕ) → _). f c.in-Some.path) (met_same t c.requires.sound.good)) in
    right (names_of c.args.path.now) c.in-Some.path (c.in_ok-path.ensures ∙ c.in-Some.is) _ _ _
    (sym (ap unresolved s) ∙ sym c.stat_checks.ensures ∙ c.in_default-stat_checks.is)
    (λ i. StatIs ((c.is_dir.ensures ∙ ap is_directory_seen v) i) ((c.size_of.ensures ∙ ap size_of v) i))
