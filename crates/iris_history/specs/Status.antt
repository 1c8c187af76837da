-- When a name is clean, doomed, dirty or unsure in a history.
use Rattle.std.specs.Prelude.{ℕ, ◌≡◌, ◌⊎◌, [], ◌∷◌, true, IsSome, IsNone, MatchBool}
use Rattle.iris_name.specs.declared.name.Name.{Name}
use Rattle.iris_name.specs.declared.note.Note.{Note}
use Rattle.iris_name.specs.declared.note.Note.TheVariants.{Call, Got, Put, Dropped}
use Rattle.iris_name.specs.History.{Past, began, AllSince, OnceWas}
use Rattle.iris_name.specs.Names.{same_name}
use Rattle.iris_history.specs.Kept.{Kept, is_block, shown_in}
use Rattle.iris_history.specs.Answers.{Last, Nothing, Stored, Gone, last_of, IsOther, IsFailure}

-- what the name stands for is the same in each beginning of the past that has at least that many notes
abbrev pub IsSteady : (k : Kept) → Name → ℕ → Past → Type 0
IsSteady k n since past = AllSince (λ p. shown_in k p n ≡ shown_in k past n) since past

-- the last put or discard is a put answered ok, since whose beginning the name stands for the same
abbrev pub IsStored : (k : Kept) → Name → Past → Last → Type 0
IsStored k n past Nothing = ⊥
IsStored k n past (Stored began bytes ok) = (ok ≡ true) × IsSteady k n began past
IsStored k n past (Gone began ok) = ⊥

-- The store was given the name's record as it is now.
pub record IsClean (k : Kept) (n : Name) (past : Past) : Type 0 where
  pub live : IsSome (shown_in k past n)
  pub stored : IsStored k n past (last_of n past)

-- a discard of the name that was answered ok
abbrev pub IsDiscardOf : Name → Note → Type 0
IsDiscardOf n (Dropped who since name ok) = (same_name n name ≡ true) × (ok ≡ true)
IsDiscardOf n (Call who request reply) = ⊥
IsDiscardOf n (Got who since name answer) = ⊥
IsDiscardOf n (Put who since name bytes ok) = ⊥

-- among the notes of the past there is a discard answered ok, since whose beginning the name was never live in the whole
abbrev pub WasDiscarded : (k : Kept) → Name → Past → Past → Type 0
WasDiscarded k n whole [] = ⊥
WasDiscarded k n whole (x ∷ past) =
    (IsDiscardOf n x.note × AllSince (λ p. IsNone (shown_in k p n)) (began past x) whole) ⊎ WasDiscarded k n whole past

-- The name was live once, isn't now, and no discard that began after it was last live has been answered ok.
pub record IsDoomed (k : Kept) (n : Name) (past : Past) : Type 0 where
  pub gone : IsNone (shown_in k past n)
  pub once : OnceWas (λ p. IsSome (shown_in k p n)) past
  pub kept : WasDiscarded k n past past → ⊥

-- live and not clean, or doomed
abbrev pub IsDirty : (k : Kept) → Name → Past → Type 0
IsDirty k n past = (IsSome (shown_in k past n) × (IsClean k n past → ⊥)) ⊎ IsDoomed k n past

-- the last transfer of the name is a get that failed or gave something other than what was stored last
abbrev pub IsDoubtful : Name → Past → Type 0
IsDoubtful n [] = ⊥
IsDoubtful n (x ∷ past) = doubt n x.note (last_of n past) (IsDoubtful n past) where
  doubt : Name → Note → Last → Type 0 → Type 0
  doubt n (Call who request reply) last rest = rest
  doubt n (Got who since name answer) last rest = MatchBool (same_name n name) (IsFailure answer ⊎ IsOther last answer) rest
  doubt n (Put who since name bytes ok) last rest = MatchBool (same_name n name) ⊥ rest
  doubt n (Dropped who since name ok) last rest = MatchBool (same_name n name) ⊥ rest

-- A live block of which it isn't known whether the store still has it.
pub record IsUnsure (k : Kept) (n : Name) (past : Past) : Type 0 where
  pub block : is_block n ≡ true
  pub live : IsSome (shown_in k past n)
  pub doubtful : IsDoubtful n past
