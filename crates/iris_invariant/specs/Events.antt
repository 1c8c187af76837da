-- What each event of the core does to what it keeps, as its code shows it: facts over plain functions and over what names
-- stand for before and after.
use Rattle.std.specs.Prelude.{ℕ, ◌≡◌, ◌≢◌, ◌∷◌, Bool, true, false, ◌&&◌, not, Some, None, IsSome, IsNone, option_map, if◌then◌else◌}
use Rattle.iris_name.specs.declared.name.Name.{Name}
use Rattle.iris_name.specs.History.{Past, Stamped}
use Rattle.iris_name.specs.Names.{same_name}
use Rattle.iris_history.specs.Kept.{Kept, shown_in}
use Rattle.iris_history.specs.Status.{IsUnsure}
use Rattle.iris_invariant.specs.Agrees.{Out, Cell, View}

abbrev pub touched : Out → Out
touched o = record { who = o.who; since = o.since; request = o.request; doing = o.doing; crowded = o.crowded; touched = true }

-- of every other name, and of every request, all is as before
pub record Elsewhere (n : Name) (v v' : View) : Type 0 where
  pub cell : (q : Name) → same_name n q ≡ false → v'.cell q ≡ v.cell q
  pub asked : (w : ℕ) → v'.asked w ≡ v.asked w
  pub kept : (w : ℕ) (q : Name) → same_name n q ≡ false → v'.kept w q ≡ v.kept w q
  pub pinned : (w : ℕ) (q : Name) → same_name n q ≡ false → v'.pinned w q ≡ v.pinned w q

-- what is kept and pinned of a name is as before
pub record SamePins (n : Name) (v v' : View) : Type 0 where
  pub kept : (w : ℕ) → v'.kept w n ≡ v.kept w n
  pub pinned : (w : ℕ) → v'.pinned w n ≡ v.pinned w n

-- something begins: it is out, and all else of the name is as before
pub record Began (n : Name) (o : Out) (v v' : View) : Type 0 where
  pub rest : Elsewhere n v v'
  pub pins : SamePins n v v'
  pub out : (v'.cell n).out ≡ Some o
  pub resident : (v'.cell n).resident ≡ (v.cell n).resident
  pub dirty : (v'.cell n).dirty ≡ (v.cell n).dirty
  pub doomed : (v'.cell n).doomed ≡ (v.cell n).doomed
  pub settled : (v'.cell n).settled ≡ (v.cell n).settled

-- something is given up, or a get ends that brings nothing: nothing is out, and all else of the name is as before
pub record Withdrawn (n : Name) (v v' : View) : Type 0 where
  pub rest : Elsewhere n v v'
  pub pins : SamePins n v v'
  pub out : (v'.cell n).out ≡ None
  pub resident : (v'.cell n).resident ≡ (v.cell n).resident
  pub dirty : (v'.cell n).dirty ≡ (v.cell n).dirty
  pub doomed : (v'.cell n).doomed ≡ (v.cell n).doomed
  pub settled : (v'.cell n).settled ≡ (v.cell n).settled

-- a settling ends
pub record SettlingEnded (n : Name) (v v' : View) : Type 0 where
  pub rest : Elsewhere n v v'
  pub pins : SamePins n v v'
  pub out : (v'.cell n).out ≡ None
  pub resident : (v'.cell n).resident ≡ (v.cell n).resident
  pub dirty : (v'.cell n).dirty ≡ (v.cell n).dirty
  pub doomed : (v'.cell n).doomed ≡ (v.cell n).doomed
  pub settled : (v.cell n).settled ≡ true → (v'.cell n).settled ≡ true

-- How a right answer leaves the name: what is resident gets a pin; what is absent and untouched is inserted; what is absent
-- and touched stays absent.
pub data Brings (who : ℕ) (touched : Bool) (c c' : Cell) (pinned pinned' : ℕ → Bool) : Type 0 where
  Pinned : c.resident ≡ true → c'.resident ≡ true → c'.settled ≡ c.settled → pinned' who ≡ true → ((w : ℕ) → w ≢ who → pinned' w ≡ pinned w) → Brings who touched c c' pinned pinned'
  Inserted : c.resident ≡ false → touched ≡ false → c'.resident ≡ true → c'.settled ≡ true → pinned' who ≡ true → Brings who touched c c' pinned pinned'
  Passed : c.resident ≡ false → touched ≡ true → c'.resident ≡ false → Brings who touched c c' pinned pinned'

pub record Brought (n : Name) (o : Out) (v v' : View) : Type 0 where
  pub rest : Elsewhere n v v'
  pub out : (v'.cell n).out ≡ None
  pub dirty : (v'.cell n).dirty ≡ (v.cell n).dirty
  pub doomed : (v'.cell n).doomed ≡ (v.cell n).doomed
  pub kept : v'.kept o.who n ≡ true
  pub others : (w : ℕ) → w ≢ o.who → v'.kept w n ≡ v.kept w n
  pub brings : Brings o.who o.touched (v.cell n) (v'.cell n) (λ w. v.pinned w n) (λ w. v'.pinned w n)

-- a put ends: the name is no more dirty exactly where it was answered ok and the name is untouched
pub record Stored (n : Name) (o : Out) (ok : Bool) (v v' : View) : Type 0 where
  pub rest : Elsewhere n v v'
  pub pins : SamePins n v v'
  pub out : (v'.cell n).out ≡ None
  pub resident : (v'.cell n).resident ≡ (v.cell n).resident
  pub dirty : (v'.cell n).dirty ≡ (if ok && not o.touched then false else (v.cell n).dirty)
  pub doomed : (v'.cell n).doomed ≡ (v.cell n).doomed
  pub settled : (v'.cell n).settled ≡ (v.cell n).settled

-- a discard ends: the name is no more doomed exactly where it was answered ok and the name is untouched
pub record Discarded (n : Name) (o : Out) (ok : Bool) (v v' : View) : Type 0 where
  pub rest : Elsewhere n v v'
  pub pins : SamePins n v v'
  pub out : (v'.cell n).out ≡ None
  pub resident : (v'.cell n).resident ≡ (v.cell n).resident
  pub dirty : (v'.cell n).dirty ≡ (v.cell n).dirty
  pub doomed : (v'.cell n).doomed ≡ (if ok && not o.touched then false else (v.cell n).doomed)
  pub settled : (v'.cell n).settled ≡ (v.cell n).settled

-- resident and dirty, and not listed as doomed: so a changed name is kept that is live
pub record IsKeptDirty (c : Cell) : Type 0 where
  pub resident : c.resident ≡ true
  pub dirty : c.dirty ≡ true
  pub doomed : c.doomed ≡ false

-- absent, and listed as doomed: so a name is kept that went
pub record IsKeptDoomed (c : Cell) : Type 0 where
  pub resident : c.resident ≡ false
  pub dirty : c.dirty ≡ false
  pub doomed : c.doomed ≡ true

-- What a call does to one name: it leaves what the name stands for, and all that is kept of it; or it changes that, and then
-- the name was resident where it was live, and is kept dirty where it is live, doomed where it is gone, and touched where
-- something is out.
pub data Moved (k : Kept) (past : Past) (x : Stamped) (n : Name) (c c' : Cell) : Type 0 where
  Still : shown_in k (x ∷ past) n ≡ shown_in k past n → c' ≡ c → Moved k past x n c c'
  Changed : shown_in k (x ∷ past) n ≢ shown_in k past n → (IsSome (shown_in k past n) → c.resident ≡ true)
      → (IsSome (shown_in k (x ∷ past) n) → IsKeptDirty c') → (IsNone (shown_in k (x ∷ past) n) → IsKeptDoomed c') → c'.out ≡ option_map touched c.out → Moved k past x n c c'

-- a call is answered, and entered: nothing was out for its caller, whose request and kept names go
pub record Answered (k : Kept) (past : Past) (x : Stamped) (who : ℕ) (v v' : View) : Type 0 where
  pub idle : (n : Name) (o : Out) → (v.cell n).out ≡ Some o → o.who ≢ who
  pub moved : (n : Name) → Moved k past x n (v.cell n) (v'.cell n)
  pub asked : (w : ℕ) → w ≢ who → v'.asked w ≡ v.asked w
  pub freed : (n : Name) → v'.kept who n ≡ false
  pub kept : (w : ℕ) (n : Name) → w ≢ who → v'.kept w n ≡ v.kept w n
  pub pinned : (w : ℕ) (n : Name) → w ≢ who → v.kept w n ≡ true → (v.cell n).resident ≡ true → (v'.cell n).resident ≡ true → v'.pinned w n ≡ v.pinned w n
  -- what comes and is kept for another is pinned for it anew
  pub again : (w : ℕ) (n : Name) → w ≢ who → v.kept w n ≡ true → (v.cell n).resident ≡ false → (v'.cell n).resident ≡ true → v'.pinned w n ≡ true

-- a request is kept for a caller for whom nothing is out
pub record Asked (who : ℕ) (v v' : View) : Type 0 where
  pub idle : (n : Name) (o : Out) → (v.cell n).out ≡ Some o → o.who ≢ who
  pub cell : (n : Name) → v'.cell n ≡ v.cell n
  pub asked : (w : ℕ) → w ≢ who → v'.asked w ≡ v.asked w
  pub kept : (w : ℕ) (n : Name) → v'.kept w n ≡ v.kept w n
  pub pinned : (w : ℕ) (n : Name) → v'.pinned w n ≡ v.pinned w n

-- a name leaves: it isn't dirty, nothing is out for it, and nobody has it pinned
pub record Evicted (n : Name) (v v' : View) : Type 0 where
  pub rest : Elsewhere n v v'
  pub pins : SamePins n v v'
  pub clean : (v.cell n).dirty ≡ false
  pub idle : (v.cell n).out ≡ None
  pub unpinned : (w : ℕ) → v.pinned w n ≡ false
  pub resident : (v'.cell n).resident ≡ false
  pub dirty : (v'.cell n).dirty ≡ false
  pub doomed : (v'.cell n).doomed ≡ (v.cell n).doomed
  pub out : (v'.cell n).out ≡ None

-- an unsure block is put into the cache, and dirty
pub record Mended (k : Kept) (past : Past) (n : Name) (v v' : View) : Type 0 where
  pub rest : Elsewhere n v v'
  pub kept : (w : ℕ) → v'.kept w n ≡ v.kept w n
  pub pinned : (w : ℕ) → v.pinned w n ≡ true → v'.pinned w n ≡ true
  pub unsure : IsUnsure k n past
  pub idle : (v.cell n).out ≡ None
  pub resident : (v'.cell n).resident ≡ true
  pub dirty : (v'.cell n).dirty ≡ true
  pub doomed : (v'.cell n).doomed ≡ (v.cell n).doomed
  pub out : (v'.cell n).out ≡ None
