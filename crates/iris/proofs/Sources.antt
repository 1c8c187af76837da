-- What was taken off the front of a source, where it tells what is left.
use Rattle.std.proofs.Common.{◌≡◌, ◌∙◌, sym, ap, refl, arith, ℕ, ◌+◌, ◌<◌, List, [], ◌++◌, length, length-append, take, drop, append_assoc}
use Rattle.std.specs.Prelude.{Option, Some, None}
use Rattle.std.proofs.lemmas.List.{take-append-drop, append-nil}
use Rattle.iris.specs.Outside.{IsPiece}
use Rattle.iris.specs.Reading.{IsAllOf, HasMoreThan}

-- these bytes were taken off the front of what was left, where that is told
abbrev pub IsTaken : Option (List ℕ) → Option (List ℕ) → List ℕ → Type 0
IsTaken None None bytes = Unit {0}
IsTaken None (Some rest) bytes = ⊥
IsTaken (Some left) None bytes = ⊥
IsTaken (Some left) (Some rest) bytes = left ≡ bytes ++ rest

-- nothing was taken yet
pub taken_none : (left : Option (List ℕ)) → IsTaken left left []
taken_none None = tt
taken_none (Some left) = refl

-- a piece more is taken
pub taken_more : (old mid new : Option (List ℕ)) (bytes piece : List ℕ) (room n : ℕ)
    → IsTaken old mid bytes → IsPiece mid new room n piece → IsTaken old new (bytes ++ piece)
taken_more None None new bytes piece room n taken read = rw read tt
taken_more None (Some rest) new bytes piece room n taken read = absurd taken
taken_more (Some left) None new bytes piece room n taken read = absurd taken
taken_more (Some left) (Some rest) new bytes piece room n taken read =
    rw (read.0) (taken ∙ (ap (λ x. bytes ++ x) (sym (take-append-drop n rest)) ∙ (sym (append_assoc bytes (take n rest) (drop n rest)) ∙ ap (λ x. (bytes ++ x) ++ drop n rest) (sym read.2))))

-- a piece of no bytes is the end
pub taken_all : (old mid new : Option (List ℕ)) (bytes piece : List ℕ) (room n : ℕ)
    → IsTaken old mid bytes → n ≡ 0 → 0 < room → IsPiece mid new room n piece → IsAllOf old new bytes
taken_all None None new bytes piece room n taken none some read = read
taken_all None (Some rest) new bytes piece room n taken none some read = absurd taken
taken_all (Some left) None new bytes piece room n taken none some read = absurd taken
taken_all (Some left) (Some rest) new bytes piece room n taken none some read =
    let empty : rest ≡ [] = read.3 none some in
    (sym (append-nil bytes) ∙ (ap (λ x. bytes ++ x) (sym empty) ∙ sym taken), read.0 ∙ (ap (λ k. Some (drop k rest)) none ∙ ap Some empty))

-- a piece too long for what is left of a limit
pub taken_over : (old mid new : Option (List ℕ)) (bytes piece : List ℕ) (room n most : ℕ)
    → IsTaken old mid bytes → IsPiece mid new room n piece → most < length bytes + n → HasMoreThan old most
taken_over None mid new bytes piece room n most taken read over = tt
taken_over (Some left) None new bytes piece room n most taken read over = absurd taken
taken_over (Some left) (Some rest) new bytes piece room n most taken read over =
    rw taken (rw length-append (omega (arith, over, read.1)))
