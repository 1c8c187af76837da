use Rattle.std.proofs.Common.{arith}
use Rattle.iris_script.proofs.Cutting.{length-IsHexOf}
use Rattle.iris.proofs.LineForms.{IsWriteLine-blank, IsWriteLine-cut, IsWriteLine-from}
use Rattle.iris.proofs.line.read_write.Goals as goal

pub returns-in_default-clause-none : goal.returns-in_default-clause-none
returns-in_default-clause-none c = IsWriteLine-blank c.args.words.now c.in_default.ensures.none

pub returns-in_default-read_place-clause-none : goal.returns-in_default-read_place-clause-none
returns-in_default-read_place-clause-none c =
    λ place bytes w. c.in_default-read_place.ensures.none place (IsWriteLine-cut c.args.words.now _ _ c.in-Some.ensures.some place bytes w).0

pub returns-then-digits-clause-none : goal.returns-then-digits-clause-none
returns-then-digits-clause-none c =
    λ place bytes w.
    let parts = IsWriteLine-cut c.args.words.now _ _ c.in-Some.ensures.some place bytes w in
    let twice = length-IsHexOf _ _ parts.1 in
    omega (arith, twice, parts.2)

pub returns-in-Some-2-clause-some : goal.returns-in-Some-2-clause-some
returns-in-Some-2-clause-some c =
    let hex = rw c.in-Some-2.is at c.in_ok-bytes.ensures.some in
    let twice = length-IsHexOf _ _ hex in
    IsWriteLine-from c.args.words.now _ _ c.in-Some.ensures.some c.in-Some-read_place.place c.in-Some-2.bytes c.in-Some-read_place.ensures.some hex (omega (arith, twice))

pub returns-in-None-clause-none : goal.returns-in-None-clause-none
returns-in-None-clause-none c =
    λ place bytes w.
    let none = rw c.in-None.is at c.in_ok-bytes.ensures.none in
    none bytes (IsWriteLine-cut c.args.words.now _ _ c.in-Some.ensures.some place bytes w).1
