-- How one note more changes whether a name is clean, and which histories are bad or legal.
use Rattle.std.proofs.Common.{◌≡◌, ◌⊎◌, inl, inr, ℕ, zero, suc, [], ◌∷◌, length, drop, refl, sym, ◌∙◌, subst, IsSome}
use Rattle.iris_name.specs.declared.name.Name.{Name}
use Rattle.iris_name.specs.History.{Past, Stamped, begun}
use Rattle.iris_history.specs.Answers.{Last, Nothing, Stored, Gone, last_of}
use Rattle.iris_history.specs.Breaks.{Breaks}
use Rattle.iris_history.specs.Kept.{Kept, shown_in}
use Rattle.iris_history.specs.Legal.{Rules, IsLawful, IsLegal, IsBad}
use Rattle.iris_history.specs.Status.{IsStored, IsClean}
use Rattle.iris_history.proofs.Pasts.{AllSince-map, AllSince-now, BeganBy, last_began}

-- a note leaves what is said of a name
pub record Leaves (k : Kept) (n : Name) (past : Past) (x : Stamped) : Type 0 where
  pub same : shown_in k (x ∷ past) n ≡ shown_in k past n
  pub last : last_of n (x ∷ past) ≡ last_of n past

stored_more : (k : Kept) (n : Name) (past : Past) (x : Stamped) (last : Last) → shown_in k (x ∷ past) n ≡ shown_in k past n → IsStored k n past last → IsStored k n (x ∷ past) last
stored_more k n past x Nothing e h = h
stored_more k n past x (Gone began ok) e h = h
stored_more k n past x (Stored began bytes ok) e h = (h.0, (refl, λ le. AllSince-map (λ p. shown_in k p n ≡ shown_in k past n) (λ p. shown_in k p n ≡ shown_in k (x ∷ past) n) (λ p f. f ∙ sym e) began past h.1))

stored_less : (k : Kept) (n : Name) (past : Past) (x : Stamped) (last : Last) → shown_in k (x ∷ past) n ≡ shown_in k past n → BeganBy (length past) last → IsStored k n (x ∷ past) last → IsStored k n past last
stored_less k n past x Nothing e b h = h
stored_less k n past x (Gone began ok) e b h = h
stored_less k n past x (Stored began bytes ok) e b h = (h.0, AllSince-map (λ p. shown_in k p n ≡ shown_in k (x ∷ past) n) (λ p. shown_in k p n ≡ shown_in k past n) (λ p f. f ∙ e) began past (h.1.1 b))

pub clean_more : (k : Kept) (n : Name) (past : Past) (x : Stamped) → Leaves k n past x → IsClean k n past → IsClean k n (x ∷ past)
clean_more k n past x l h = record {
  live = subst IsSome (sym l.same) h.live;
  stored = subst (IsStored k n (x ∷ past)) (sym l.last) (stored_more k n past x (last_of n past) l.same h.stored);
}

pub clean_less : (k : Kept) (n : Name) (past : Past) (x : Stamped) → Leaves k n past x → IsClean k n (x ∷ past) → IsClean k n past
clean_less k n past x l h = record {
  live = subst IsSome l.same h.live;
  stored = stored_less k n past x (last_of n past) l.same (last_began n past) (subst (IsStored k n (x ∷ past)) l.last h.stored);
}

-- what stands for something else now wasn't stored since
pub stale : (k : Kept) (n : Name) (past : Past) (x : Stamped) (last : Last) → BeganBy (length past) last
    → (shown_in k past n ≡ shown_in k (x ∷ past) n → ⊥) → IsStored k n (x ∷ past) last → ⊥
stale k n past x Nothing b ne h = h
stale k n past x (Gone began ok) b ne h = h
stale k n past x (Stored began bytes ok) b ne h =
    ne (AllSince-now (λ p. shown_in k p n ≡ shown_in k (x ∷ past) n) began past (h.1.1 b))

-- a lawful note keeps that a history is bad or legal
pub judged_more : (k : Kept) (r : Rules) (past : Past) (x : Stamped) → IsLawful k r x.opened past (begun past x) x.note → IsBad k r past ⊎ IsLegal k r past → IsBad k r (x ∷ past) ⊎ IsLegal k r (x ∷ past)
judged_more k r past x l (inl bad) = inl (inr bad)
judged_more k r past x l (inr legal) = inr (l, legal)

-- the beginnings of a legal history are legal
pub legal_before : (k : Kept) (r : Rules) (m : ℕ) (past : Past) → IsLegal k r past → IsLegal k r (drop m past)
legal_before k r zero past h = h
legal_before k r (suc m) [] h = h
legal_before k r (suc m) (x ∷ past) h = legal_before k r m past h.1

-- a bad history is bad by a note that stands on a legal one
pub bad_at : (k : Kept) (r : Rules) (past : Past) → IsBad k r past
    → (m : ℕ) × (x : Stamped) × (before : Past) × (drop m past ≡ x ∷ before) × Breaks k before (begun before x) x.note × IsLegal k r (x ∷ before)
bad_at k r [] h = absurd h
bad_at k r (x ∷ past) (inl h) = (0, x, past, refl, h.0, h.1)
bad_at k r (x ∷ past) (inr h) = let f = bad_at k r past h in (suc f.0, f.1, f.2, f.3, f.4, f.5)
