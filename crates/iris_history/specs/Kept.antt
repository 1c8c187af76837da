-- What is kept by a portal: a table that calls change, and what stands in the store under which name.
use Rattle.std.specs.Prelude.{ℕ, ◌≡◌, List, [], ◌∷◌, Bool, true, false, Option, Some, None, if◌then◌else◌}
use Rattle.iris_name.specs.declared.name.Name.{Name}
use Rattle.iris_name.specs.declared.name.Name.TheVariants.{Entry, Part, Block}
use Rattle.iris_name.specs.declared.note.Note.{Note}
use Rattle.iris_name.specs.declared.note.Note.TheVariants.{Call, Got, Put, Dropped}
use Rattle.iris_name.specs.declared.request.Request.{Request}
use Rattle.iris_name.specs.declared.request.Reply.{Reply}
use Rattle.iris_name.specs.declared.request.Reply.TheVariants.{Plain, Refused}
use Rattle.iris_name.specs.History.{Past}

-- A table by its start and its step, what a live name stands for in it, and how that is spelled in the store.
-- The block registers are one such table, a file system is another.
pub record Kept : Type 1 where
  pub Table : Type 0
  -- a node with all nodes below it, or a block with its version
  pub Unfolded : Type 0
  pub start : Table
  pub step : Table → Request → Table
  -- what a name stands for, none where it isn't live
  pub shown : Table → Name → Option Unfolded
  -- the record of a name that stands for it
  pub spelled : Name → Unfolded → List ℕ
  -- the version of what a block stands for
  pub version : Unfolded → ℕ
  -- the key under which blocks are tagged
  pub key : List ℕ

abbrev pub is_block : Name → Bool
is_block (Block f p) = true
is_block (Entry i) = false
is_block (Part f l i) = false

-- the version of what a name stands for; what isn't live has version 0
abbrev pub version_of : (k : Kept) → Option k.Unfolded → ℕ
version_of k None = 0
version_of k (Some u) = k.version u

-- the bytes are the record of what the name stands for; of what isn't live there is none
abbrev pub Carries : (k : Kept) → Name → Option k.Unfolded → List ℕ → Type 0
Carries k n None bytes = ⊥
Carries k n (Some u) bytes = bytes ≡ k.spelled n u

-- whether a call with this reply takes its step: a plain error and a refusal change nothing
abbrev pub takes_step : Reply → Bool
takes_step (Plain e) = false
takes_step (Refused c) = false
takes_step _ = true

-- the table after a note
abbrev pub after_note : (k : Kept) → k.Table → Note → k.Table
after_note k t (Call who request reply) = if takes_step reply then k.step t request else t
after_note k t (Got who since name answer) = t
after_note k t (Put who since name bytes ok) = t
after_note k t (Dropped who since name ok) = t

-- the table to which the calls of a past led
abbrev pub table_of : (k : Kept) → Past → k.Table
table_of k [] = k.start
table_of k (x ∷ past) = after_note k (table_of k past) x.note

-- what a name stands for after a past
abbrev pub shown_in : (k : Kept) → Past → Name → Option k.Unfolded
shown_in k past n = k.shown (table_of k past) n
