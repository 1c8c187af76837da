use Rattle.std.proofs.Common.{◌≡◌, ◌∙◌}
use Rattle.std.specs.Prelude.{decimal}
use Rattle.std.proofs.lemmas.Fmt.{parse-decimal, IsAscii-decimal}
use Rattle.std.proofs.lemmas.Bool.Decides.{Decides-eqb}
use Rattle.std.proofs.lemmas.Slice.Eq.{slice_eq-Decides}
use Rattle.std.proofs.lemmas.Str.{IsUtf8-from_ascii}
use Rattle.iris_script.proofs.number.read_number.Goals as goal

pub returns-in_default-clause-none : goal.returns-in_default-clause-none
returns-in_default-clause-none c =
    λ n h. c.in_default.ensures.cases.0 (IsUtf8-from_ascii _ (rw h.1 (IsAscii-decimal n h.0)))

pub returns-in_default-parse-clause-none : goal.returns-in_default-parse-clause-none
returns-in_default-parse-clause-none c =
    λ n h.
    let text : c.in-Ok.text.now ≡ decimal n = c.in-Ok.ensures.cases.0 ∙ h.1 in
    let read = parse-decimal 64 n _ _ h.0 h.0 text c.parse.ensures.value.0 in
    cc (read, c.in_default-parse.is)

pub returns-else-eq-clause-none : goal.returns-else-eq-clause-none
returns-else-eq-clause-none c =
    λ n h.
    let text : c.in-Ok.text.now ≡ decimal n = c.in-Ok.ensures.cases.0 ∙ h.1 in
    let read = parse-decimal 64 n _ _ h.0 h.0 text c.parse.ensures.value.0 in
    let same : c.in-Ok-parse.number ≡ n = cc (read, c.in-Ok-parse.is) in
    let shown : c.as_bytes.result.now ≡ c.args.word.now = cc (same, h.1, c.format.ensures.text, c.as_bytes.ensures.value) in
    cc ((slice_eq-Decides Decides-eqb _ _ _ c.eq.ensures).1 shown, c.if-eq.false)
