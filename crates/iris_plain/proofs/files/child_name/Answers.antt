use Rattle.std.proofs.Common.{arith, sym, ◌∙◌, ap, ◌++◌, ◌∷◌, []}
use Rattle.iris_plain.proofs.RouteLaws.{child, no_child, under_join}
use Rattle.iris_plain.proofs.EntryLaws.{differ_back}
use Rattle.iris_plain.specs.Routes.{is_path}
use Rattle.iris_plain.proofs.files.child_name.Goals as goal
use Rattle.iris_plain.proofs.files.child_name.Goals.{else-path-names-via-then-path-names+else-is_under, else-path-names-via-else-path-names}

pub returns-then-is_under : goal.returns-then-is_under
returns-then-is_under c = sym c.names-path.ensures ∙ child c.args.names.now c.names-path.result.now c.index-path-names.result (sym c.is_under.ensures ∙ c.if-is_under.true) (omega arith) c.index-path-names.is

pub returns-else-path-names : goal.returns-else-path-names
returns-else-path-names c = λ n. ap (λ p. is_path p (c.args.names.now ++ n ∷ [])) (sym c.names-path.ensures) ∙ elim c.else-path-names.branch [
  | else-path-names-via-then-path-names+else-is_under w ↦ differ_back c.args.names.now c.names-path.result.now (c.args.names.now ++ n ∷ []) (sym w.is_under.ensures ∙ w.if-is_under.false) (under_join c.args.names.now (n ∷ []))
  | else-path-names-via-else-path-names w ↦ no_child c.args.names.now c.names-path.result.now n (λ e. omega (arith, w.if-path-names.false, e))
]
