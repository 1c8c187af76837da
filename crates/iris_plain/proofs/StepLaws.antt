-- The reply and the next state, by the checks of a path's names.
use Rattle.std.proofs.Common.{◌≡◌, ℕ, ◌+◌, ◌<◌, ◌^◌, suc, List, [], ◌∷◌, length, take, ◌-◌, Bool, true, false, cond, Option, Some, None, refl, sym, ◌∙◌, ap, subst, arith}
use Rattle.std.specs.Prelude.{is_none, ◌==◌}
use Rattle.std.proofs.lemmas.Bool.Decides.{nat_tests}
use Rattle.iris_name.specs.declared.request.PlainError.{PlainError}
use Rattle.iris_name.specs.declared.request.Reply.{Reply}
use Rattle.iris_name.specs.declared.request.Reply.TheVariants.{Plain}
use Rattle.iris_plain.specs.Routes.{parent, is_top}
use Rattle.iris_plain.specs.Checks.{on_names, is_full}
use Rattle.iris_plain.specs.Files.{Files, PlainState}
use Rattle.iris_plain.specs.Steps.{Judged, OnNames, by_names, aged}
use Rattle.iris_plain.specs.Entries.{ListedEntries, kind_at, state_of_list}
use Rattle.iris_plain.specs.declared.files.Entry.{Entry}

abbrev pub Path : Type 0
Path = List (List ℕ)

module _ (o : Option Path) (names : Path) (is : o ≡ Some names) (checks : Path → Option PlainError) where
  pub judged_err : (R : Type 0) (e : PlainError) → checks names ≡ Some e → Judged (on_names o checks) R (Plain e)
  judged_err R e h = let P : Option PlainError → Type 0 = λ v. Judged v R (Plain e) in subst P (sym (ap (λ o. on_names o checks) is ∙ h)) refl

  pub judged_ok : (R : Type 0) (reply : Reply) → checks names ≡ None → R → Judged (on_names o checks) R reply
  judged_ok R reply h r = let P : Option PlainError → Type 0 = λ v. Judged v R reply in subst P (sym (ap (λ o. on_names o checks) is ∙ h)) r

  pub right : (R : Path → Type 0) (reply : Reply) → checks names ≡ None → R names → Judged (on_names o checks) (OnNames o R) reply
  right R reply h r = judged_ok (OnNames o R) reply h (let P : Option Path → Type 0 = λ o. OnNames o R in subst P (sym is) r)

  pub next_err : {S : Type 0} (p : S) (change : Path → S) (e : PlainError) → checks names ≡ Some e → p ≡ cond (is_none (on_names o checks)) (by_names p o change) p
  next_err p change e h = sym (ap (λ v. cond (is_none v) (by_names p o change) p) (ap (λ o. on_names o checks) is ∙ h))

  pub next_ok : {S : Type 0} (p q : S) (change : Path → S) → checks names ≡ None → q ≡ change names → q ≡ cond (is_none (on_names o checks)) (by_names p o change) p
  next_ok p q change h e = e ∙ sym (ap (λ o. by_names p o change) is) ∙ sym (ap (λ v. cond (is_none v) (by_names p o change) p) (ap (λ o. on_names o checks) is ∙ h))

-- the list after a change, at the next age
pub same_state : (p : ListedEntries) (inside es : List Entry) (age : ℕ) (f : Files → Files) → inside ≡ p.entries → age ≡ p.age → ((q : Path) → kind_at es q ≡ f (kind_at inside) q)
    → state_of_list (record { entries = es; age = age + 1 }) ≡ aged f (state_of_list p)
same_state p inside es age f i a h = let g : (q : Path) → kind_at es q ≡ f (kind_at p.entries) q = λ q. h q ∙ ap (λ xs. f (kind_at xs) q) i in λ j. record { files = λ q. g q j; age = a j + 1 }

pub front_names : (names : Path) → take (length names - 1) names ≡ parent names
front_names [] = refl
front_names (n ∷ []) = refl
front_names (n ∷ m ∷ ns) = let e : length (n ∷ m ∷ ns) - 1 ≡ suc (length (m ∷ ns) - 1) = omega arith in ap (λ k. take k (n ∷ m ∷ ns)) e ∙ ap (λ z. n ∷ z) (front_names (m ∷ ns))

room : (age : ℕ) → is_full age ≡ false → age + 1 < 2 ^ 64
room age e = let h : age < 2 ^ 40 = grind (arith, nat_tests) in omega arith

equal : (a b : ℕ) → a ≡ b → (a == b) ≡ true
equal a b h = grind (arith, nat_tests)

unequal : (a b : ℕ) → (a ≡ b → ⊥) → (a == b) ≡ false
unequal a b h = grind (arith, nat_tests)

-- a change that is none where two numbers are equal
pub stays_same : (a b : ℕ) (x y : PlainState) → a ≡ b → x ≡ cond (a == b) x y
stays_same a b x y h = sym (ap (λ t. cond t x y) (equal a b h))

pub goes_on : (a b : ℕ) (x y z : PlainState) → (a ≡ b → ⊥) → z ≡ y → z ≡ cond (a == b) x y
goes_on a b x y z h e = e ∙ sym (ap (λ t. cond t x y) (unequal a b h))

pub goes_on_by : (t : Bool) (x y z : PlainState) → t ≡ false → z ≡ y → z ≡ cond t x y
goes_on_by t x y z h e = e ∙ sym (ap (λ t. cond t x y) h)

-- no names are the root
pub top_len : (names : Path) → (length names == 0) ≡ is_top names
top_len [] = refl
top_len (n ∷ names) = unequal (length (n ∷ names)) 0 (λ e. omega arith)
