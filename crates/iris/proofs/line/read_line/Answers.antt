use Rattle.iris.proofs.LineForms.{IsWriteLine-range, Spells-read, Spells-write, SpellsNone-write}
use Rattle.iris.proofs.line.read_line.Goals as goal

pub returns-in-Some-2-clause-some : goal.returns-in-Some-2-clause-some
returns-in-Some-2-clause-some c =
    let w = rw c.in-Some-2.is at c.in_ok-place.ensures.some in
    Spells-write c.args.line.now _ _ _ c.in-Some.ensures.some w

pub returns-in-Some-2-clause-range : goal.returns-in-Some-2-clause-range
returns-in-Some-2-clause-range c =
    let w = rw c.in-Some-2.is at c.in_ok-place.ensures.some in
    IsWriteLine-range _ _ _ w

pub returns-in-None-clause-none : goal.returns-in-None-clause-none
returns-in-None-clause-none c =
    let none = rw c.in-None.is at c.in_ok-place.ensures.none in
    SpellsNone-write c.args.line.now _ c.in-Some.ensures.some none

pub returns-in-Some-read_place-clause-some : goal.returns-in-Some-read_place-clause-some
returns-in-Some-read_place-clause-some c =
    Spells-read c.args.line.now _ c.in-Some-read_place.place c.in-Some-after.ensures.some c.in-Some-read_place.ensures.some
