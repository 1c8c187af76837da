use Rattle.std.proofs.Common.{◌+◌, sym, ◌∙◌}
use Rattle.iris_script.proofs.Cutting.{IsCut-from_some, Lacks-from_none, rest_whole}
use Rattle.iris_script.proofs.cut.cut_at.Goals as goal

pub returns-in-Some-clause-some : goal.returns-in-Some-clause-some
returns-in-Some-clause-some c =
    rw (rest_whole c.args.text.now (c.in-Some.place + 1)) (IsCut-from_some c.args.byte c.args.text.now c.in-Some.place (sym c.place_of.ensures ∙ c.in-Some.is))

pub returns-in-None-clause-none : goal.returns-in-None-clause-none
returns-in-None-clause-none c = Lacks-from_none c.args.byte c.args.text.now (sym c.place_of.ensures ∙ c.in-None.is)
