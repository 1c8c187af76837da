-- Pieces that are put one after another.
use Rattle.std.proofs.Common.{◌≡◌, ℕ, List, ◌++◌, ◌∙◌, append_assoc, ap, refl}

pub fed_three : (s s1 s2 s3 a b a' b' c : List ℕ) → a ≡ a' → b ≡ b' → s1 ≡ s ++ a → s2 ≡ s1 ++ b → s3 ≡ s2 ++ c → s3 ≡ s ++ (a' ++ (b' ++ c))
fed_three s s1 s2 s3 a b a' b' c ea eb e1 e2 e3 =
    e3 ∙ ap (λ w. w ++ c) (e2 ∙ ap (λ w. w ++ b) e1) ∙ append_assoc (s ++ a) b c ∙ append_assoc s a (b ++ c) ∙ rw (ea, eb) refl
