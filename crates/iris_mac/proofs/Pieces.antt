-- The text under a tag, fed in pieces.
use Rattle.std.proofs.Common.{append_assoc, ◌≡◌, ℕ, List, ◌++◌, subst, refl, ◌∙◌}
use Rattle.std.specs.Int.{w32, w64, to_be_bytes}
use Rattle.iris_name.specs.Hmac.{tag, hmac, tagged}

regroup : (a f p v b : List ℕ) → (((a ++ f) ++ p) ++ v) ++ b ≡ a ++ (f ++ (p ++ (v ++ b)))
regroup a f p v b = simp append_assoc

-- what a hasher holds that was fed the pieces of a tag's text
pub tag_from : (Holds : List ℕ → Type 0) (front key block f p v result : List ℕ) (file place version : ℕ)
    → f ≡ to_be_bytes w64 file → p ≡ to_be_bytes w32 place → v ≡ to_be_bytes w64 version
    → Holds ((((front ++ f) ++ p) ++ v) ++ block) → ((text : List ℕ) → Holds (front ++ text) → result ≡ hmac key text)
    → result ≡ tag key file place version block
unfolding tag
tag_from Holds front key block f p v result file place version ef ep ev fed finish =
    let same : front ++ (f ++ (p ++ (v ++ block))) ≡ front ++ tagged file place version block = rw (ef, ep, ev) refl in
    finish (tagged file place version block) (subst Holds (regroup front f p v block ∙ same) fed)
