use Rattle.std.proofs.Common.{Option, Some, None}
use Rattle.std.specs.Prelude.{MatchOption, IfSome, IfNone}
use Rattle.std.proofs.lemmas.Bool.Decides.{Decides-eqb}
use Rattle.std.proofs.lemmas.Slice.Eq.{strip_prefix_is}
use Rattle.iris.proofs.line.after.Goals as goal

some_part : {X : Type 0} (N : Type 0) (S : X → Type 0) (r : Option X) → MatchOption r N S → IfSome r S
some_part N S (Some x) h = h
some_part N S None h = tt

none_part : {X : Type 0} (N : Type 0) (S : X → Type 0) (r : Option X) → MatchOption r N S → IfNone r N
none_part N S (Some x) h = tt
none_part N S None h = h

pub returns-clause-some : goal.returns-clause-some
returns-clause-some c =
    some_part _ _ c.strip_prefix.result (strip_prefix_is Decides-eqb c.args.line.now c.args.front.now c.strip_prefix.result c.strip_prefix.ensures.cases)

pub returns-clause-none : goal.returns-clause-none
returns-clause-none c =
    none_part _ _ c.strip_prefix.result (strip_prefix_is Decides-eqb c.args.line.now c.args.front.now c.strip_prefix.result c.strip_prefix.ensures.cases)
