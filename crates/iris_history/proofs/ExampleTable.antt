-- A table of one number, over which the examples of histories stand: the blocks of file 2, and the entries, below that
-- number stand for it, and their records are that number alone.
use Rattle.std.proofs.Common.{◌≡◌, ℕ, nat_lt, List, [], ◌∷◌, Bool, true, false, Option, Some, None, if◌then◌else◌, get_or, ap, arith}
use Rattle.iris_name.specs.declared.name.Name.{Name}
use Rattle.iris_name.specs.declared.name.Name.TheVariants.{Entry, Part, Block}
use Rattle.iris_name.specs.declared.note.Answer.{Answer}
use Rattle.iris_name.specs.declared.note.Note.{Note}
use Rattle.iris_name.specs.declared.note.Note.TheVariants.{Call, Got, Put, Dropped}
use Rattle.iris_name.specs.declared.request.Request.{Request}
use Rattle.iris_name.specs.declared.request.Request.TheVariants.{Probe}
use Rattle.iris_name.specs.declared.request.Reply.TheVariants.{Done}
use Rattle.iris_name.specs.History.{Past, past_of}
use Rattle.iris_history.specs.Kept.{Kept, shown_in}
use Rattle.iris_history.specs.Legal.{Rules}

abbrev set : ℕ → Request → ℕ
set t (Probe at) = at
set t _ = t

abbrev show : ℕ → Name → Option ℕ
show t (Entry i) = if nat_lt i.0 t then Some t else None
show t (Part f l i) = None
show t (Block f p) = if nat_lt p t then Some t else None

abbrev pub toy : Kept
toy = record { Table = ℕ; Unfolded = ℕ; start = 0; step = set; shown = show; spelled = λ n u. u ∷ []; version = λ u. u; key = [] }

-- every reply but `Done` is wrong; a request reaches what stands for 5; and it may wait for the store where block 0 does
abbrev pub rules : Rules
rules = record {
  replies = λ past request reply. reply ≡ Done;
  reaches = λ past request name. shown_in toy past name ≡ Some 5;
  waits = λ past request. shown_in toy past (Block (record { 0 = 2 }) 0) ≡ Some 5;
}

abbrev pub block : ℕ → Name
block p = Block (record { 0 = 2 }) p

abbrev pub entry : ℕ → Name
entry i = Entry (record { 0 = i })

abbrev pub n : Name
n = block 0

abbrev pub bytes : ℕ → List ℕ
bytes v = v ∷ []

-- caller 1's notes: a call that leaves this table, and transfers of block 0
abbrev pub call : ℕ → Note
call v = Call 1 (Probe v) Done

abbrev pub put : ℕ → ℕ → Bool → Note
put since v ok = Put 1 since n (v ∷ []) ok

abbrev pub drop_it : ℕ → Bool → Note
drop_it since ok = Dropped 1 since n ok

abbrev pub got : ℕ → Answer → Note
got since a = Got 1 since n a

-- the past of one session
abbrev pub past_in : List Note → Past
past_in notes = past_of (notes ∷ [])

pub differ : true ≡ false → ⊥
differ e = cc

pub differ' : false ≡ true → ⊥
differ' e = cc

abbrev number : Option ℕ → ℕ
number None = 0
number (Some v) = v

pub apart : (a b : ℕ) → a ≡ 6 → b ≡ 5 → Some a ≡ Some b → ⊥
apart a b ea eb e = let h : a ≡ b = ap number e in absurd (omega (arith, h, ea, eb))

pub other_bytes : bytes 6 ≡ bytes 5 → ⊥
other_bytes e = let h : 6 ≡ 5 = ap (λ xs. get_or xs 0 0) e in absurd (omega (arith, h))
