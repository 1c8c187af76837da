use Rattle.std.proofs.Common.{◌≡◌, ℕ, List, length, arith, sym, ◌∙◌, subst, ap}
use Rattle.std.specs.Str.{IsUtf8}
use Rattle.iris_script.proofs.PathWords.{Unescapes-same}
use Rattle.iris_script.proofs.path.read_path.Goals as goal

pub returns-then-is_empty-clause-none : goal.returns-then-is_empty-clause-none
returns-then-is_empty-clause-none c =
    λ path h.
    let read = rw c.in-Some.is at c.in_ok-bytes.ensures.some in
    let same : path ≡ c.in-Some.bytes.items = Unescapes-same c.args.word.now path c.in-Some.bytes.items h.spells read in
    let lengths : length path ≡ length c.in-Some.bytes.items = ap length same in
    let empty : length c.in-Some.bytes.items ≡ 0 = grind arith in
    let some = h.some in
    omega (arith, lengths, empty, some)

pub returns-in_default-from_utf8-clause-none : goal.returns-in_default-from_utf8-clause-none
returns-in_default-from_utf8-clause-none c =
    λ path h.
    let read = rw c.in-Some.is at c.in_ok-bytes.ensures.some in
    let same : path ≡ c.in-Some.bytes.items = Unescapes-same c.args.word.now path c.in-Some.bytes.items h.spells read in
    let P : List ℕ → Type 0 = λ t. IsUtf8 t in
    c.in_default-from_utf8.ensures.cases.0 (subst P (same ∙ sym c.as_slice.ensures.value) h.utf8)
