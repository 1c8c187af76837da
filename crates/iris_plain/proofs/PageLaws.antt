-- The least of the names that are greater than one, with one more name.
use Rattle.std.proofs.Common.{◌≡◌, ◌⊎◌, inl, inr, ℕ, suc, ◌+◌, ◌-◌, ◌<◌, ◌≤◌, List, [], ◌∷◌, Bool, true, false, refl, sym, ◌∙◌, ap, subst, arith}
use Rattle.std.specs.Prelude.{◌||◌}
use Rattle.std.specs.Ordering.{nat_cmp, is_lt}
use Rattle.std.specs.declared.cmp.Ordering.{Ordering}
use Rattle.std.specs.declared.cmp.Ordering.TheVariants.{Less, Equal, Greater}
use Rattle.std.specs.Str.{bytes_eq}
use Rattle.std.specs.Cmp.Lexicographic.{slice_cmp, nat_list_cmp_total, bytes_decides}
use Rattle.iris_plain.specs.Routes.{is_name_before}
use Rattle.iris_plain.specs.Pages.{NoneLater, IsNext, IsPage}

less_is : (o : Ordering) → is_lt o ≡ true → o ≡ Less
less_is Less e = refl
less_is Equal e = absurd (cc)
less_is Greater e = absurd (cc)

pub before_trans : (a b c : List ℕ) → is_name_before a b ≡ true → is_name_before b c ≡ true → is_name_before a c ≡ true
before_trans a b c p q = ap is_lt (nat_list_cmp_total.trans a b c (less_is _ p) (less_is _ q))

not_less : (o : Ordering) → o ≡ Less → o ≡ Greater → ⊥
not_less o p q = let e = sym p ∙ q in absurd (cc)

reverse_less : (n : List ℕ) → slice_cmp nat_cmp n n ≡ Less → ⊥
reverse_less n e = let h = nat_list_cmp_total.antisymm n n in absurd (let k = rw e at h in cc)

pub before_self : (n : List ℕ) → is_name_before n n ≡ false
before_self n = by (is_name_before n n) refl where
  by : (b : Bool) → is_name_before n n ≡ b → b ≡ false
  by true e = absurd (reverse_less n (less_is _ e))
  by false e = refl

refuted : (b : Bool) → (b ≡ true → ⊥) → b ≡ false
refuted true f = absurd (f refl)
refuted false f = refl

-- a name that is there, or the other one
either_name : (x : Bool) (m n : List ℕ) → (x || bytes_eq m n) ≡ true → (x ≡ true) ⊎ (m ≡ n)
either_name true m n e = inl refl
either_name false m n e = inr ((bytes_decides m n).0 e)

itself : (x : Bool) (n : List ℕ) → (x || bytes_eq n n) ≡ true
itself true n = refl
itself false n = (bytes_decides n n).1 refl

module _ (there : List ℕ → Bool) (after n : List ℕ) where
  abbrev pub with_name : List ℕ → Bool
  with_name m = there m || bytes_eq m n

  pub better_none : NoneLater there after → is_name_before after n ≡ true → IsNext with_name after n
  better_none none l = record {
    here = itself (there n) n;
    later = l;
    least = λ m h k. elim (either_name (there m) m n h) [ inl t ↦ absurd (none m t k) | inr e ↦ ap (λ z. is_name_before z n) e ∙ before_self n ];
  }

  pub better_some : (b : List ℕ) → IsNext there after b → is_name_before after n ≡ true → is_name_before n b ≡ true → IsNext with_name after n
  better_some b old l less = record {
    here = itself (there n) n;
    later = l;
    least = λ m h k. elim (either_name (there m) m n h) [
      | inl t ↦ refuted (is_name_before m n) (λ e. let p = before_trans m n b e less in let q = old.least m t k in absurd (let r = sym p ∙ q in cc))
      | inr e ↦ ap (λ z. is_name_before z n) e ∙ before_self n
    ];
  }

  pub keeps_some : (b : List ℕ) → IsNext there after b → is_name_before n b ≡ false → IsNext with_name after b
  keeps_some b old less = record {
    here = ap (λ x. x || bytes_eq b n) old.here;
    later = old.later;
    least = λ m h k. elim (either_name (there m) m n h) [ inl t ↦ old.least m t k | inr e ↦ ap (λ z. is_name_before z b) e ∙ less ];
  }

  pub skips_none : NoneLater there after → is_name_before after n ≡ false → NoneLater with_name after
  skips_none none l m h k = elim (either_name (there m) m n h) [ inl t ↦ none m t k | inr e ↦ absurd (let p = sym (ap (is_name_before after) e) ∙ k in let r = sym l ∙ p in cc) ]

  pub skips_some : (b : List ℕ) → IsNext there after b → is_name_before after n ≡ false → IsNext with_name after b
  skips_some b old l = record {
    here = ap (λ x. x || bytes_eq b n) old.here;
    later = old.later;
    least = λ m h k. elim (either_name (there m) m n h) [ inl t ↦ old.least m t k | inr e ↦ absurd (let p = sym (ap (is_name_before after) e) ∙ k in let r = sym l ∙ p in cc) ];
  }

-- one more name of a page
pub page_more : (there : List ℕ → Bool) (i : ℕ) (last n : List ℕ) (tail : List (List ℕ)) → i < 64 → IsNext there last n → IsPage there (64 - (i + 1)) n tail → IsPage there (64 - i) last (n ∷ tail)
page_more there i last n tail h x p = let e : 64 - i ≡ suc (64 - (i + 1)) = omega arith in let P : ℕ → Type 0 = λ room. IsPage there room last (n ∷ tail) in subst P (sym e) (x, p)

-- a page that ends before it is full
pub page_ends : (there : List ℕ → Bool) (i : ℕ) (last : List ℕ) → i < 64 → NoneLater there last → IsPage there (64 - i) last []
page_ends there i last h x = let e : 64 - i ≡ suc (64 - (i + 1)) = omega arith in let P : ℕ → Type 0 = λ room. IsPage there room last [] in subst P (sym e) x

-- a full page
pub page_full : (there : List ℕ → Bool) (i : ℕ) (last : List ℕ) → 64 ≤ i → IsPage there (64 - i) last []
page_full there i last h = let e : 64 - i ≡ 0 = omega arith in let P : ℕ → Type 0 = λ room. IsPage there room last [] in subst P (sym e) refl
