-- Forgeries and collisions: the two ways in which a store's answer can break the cryptography.
use Rattle.std.specs.Prelude.{ℕ, ◌≡◌, ◌≢◌, ◌⊎◌, List, [], ◌∷◌, take, true, false, IsSomeAnd}
use Rattle.sha2.specs.Sha256.{sha256}
use Rattle.iris_name.specs.declared.name.Name.{Name}
use Rattle.iris_name.specs.declared.name.Name.TheVariants.{Entry, Part, Block}
use Rattle.iris_name.specs.declared.note.Answer.TheVariants.{Absent, Given, Failed}
use Rattle.iris_name.specs.declared.note.Note.{Note}
use Rattle.iris_name.specs.declared.note.Note.TheVariants.{Call, Got, Put, Dropped}
use Rattle.iris_name.specs.History.{Past, begun}
use Rattle.iris_name.specs.Names.{same_name}
use Rattle.iris_name.specs.Hmac.{Passes}
use Rattle.iris_history.specs.Kept.{Kept, is_block, version_of, shown_in}

-- a put of the name carries this block, and in the history in which it began the name had this version
abbrev pub PutsBlock : (k : Kept) → Name → ℕ → List ℕ → Past → Note → Type 0
PutsBlock k n version block at (Put who since name bytes ok) =
    (same_name n name ≡ true) × (version_of k (shown_in k at n) ≡ version) × (take 4096 bytes ≡ block)
PutsBlock k n version block at (Call who request reply) = ⊥
PutsBlock k n version block at (Got who since name answer) = ⊥
PutsBlock k n version block at (Dropped who since name ok) = ⊥

-- some put of the past carries this block of the name with this version
abbrev pub WasPut : (k : Kept) → Name → ℕ → List ℕ → Past → Type 0
WasPut k n version block [] = ⊥
WasPut k n version block (x ∷ past) = PutsBlock k n version block (begun past x) x.note ⊎ WasPut k n version block past

-- bytes given for a block that pass for the version that it has where the get began, though no put before carried
-- that block with that version
abbrev pub Forges : (k : Kept) → Past → Past → Name → List ℕ → Type 0
Forges k past at (Block f p) got = let v = version_of k (shown_in k at (Block f p)) in
    Passes k.key f.0 p v got × (WasPut k (Block f p) v (take 4096 got) past → ⊥)
Forges k past at (Entry i) got = ⊥
Forges k past at (Part f l i) got = ⊥

-- bytes given for a live node that aren't its record where the get began, and have the same SHA-256
abbrev pub Collides : (k : Kept) → Past → Name → List ℕ → Type 0
Collides k at n got = (is_block n ≡ false) × IsSomeAnd (shown_in k at n) (λ u. (got ≢ k.spelled n u) × (sha256 got ≡ sha256 (k.spelled n u)))

-- a note that stands on this past, and began in that one, is a forgery or a collision
abbrev pub Breaks : (k : Kept) → Past → Past → Note → Type 0
Breaks k past at (Got who since name (Given got)) = Forges k past at name got ⊎ Collides k at name got
Breaks k past at (Got who since name Absent) = ⊥
Breaks k past at (Got who since name Failed) = ⊥
Breaks k past at (Call who request reply) = ⊥
Breaks k past at (Put who since name bytes ok) = ⊥
Breaks k past at (Dropped who since name ok) = ⊥
