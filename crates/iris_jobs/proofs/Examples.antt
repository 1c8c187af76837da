-- Worked examples: which bytes are a record, what an answer brings, and what a put carries.
use Rattle.std.proofs.Common.{◌≡◌, ◌≢◌, ℕ, List, [], ◌∷◌, refl}
use Rattle.sha2.specs.Sha256.{sha256}
use Rattle.iris_desk.specs.declared.out.Record.TheVariants as written
use Rattle.iris_name.specs.declared.name.FileId.{FileId}
use Rattle.iris_name.specs.declared.name.Hash32.{Hash32}
use Rattle.iris_name.specs.declared.name.Name.{Name}
use Rattle.iris_name.specs.declared.name.Name.TheVariants.{Entry, Part, Block}
use Rattle.iris_name.specs.declared.note.Answer.TheVariants.{Absent, Given, Failed}
use Rattle.iris_name.specs.declared.note.Expect.TheVariants.{Hash, Version}
use Rattle.iris_name.specs.Hmac.{Passes, record_of}
use Rattle.iris_node.specs.declared.node.Node.{Node}
use Rattle.iris_node.specs.Nodes.{IsNode, name_of}
use Rattle.iris_node.specs.Spelling.{spelling}
use Rattle.iris_jobs.specs.declared.job.Brought.{Brought}
use Rattle.iris_jobs.specs.declared.job.Brought.TheVariants as brought
use Rattle.iris_jobs.specs.Chores.{FitsName, record_bytes}
use Rattle.iris_jobs.specs.Jobs.{AnswerBrings, IsReadAs, IsRecordFor}

abbrev file : FileId
file = record { 0 = 2 }

-- a node's spelling is its record under its own hash
own_record : (key : List ℕ) (node : Node) (h : Hash32) → IsNode node → h.0 ≡ sha256 (spelling node) → IsRecordFor key (name_of node) (Hash h) (spelling node)
own_record key node h is e = ((let f : h.0 ≡ sha256 (spelling node) = e in cc), record { node = node; is = is; named = refl; bytes_ = refl })

-- and isn't under another
other_hash : (key : List ℕ) (n : Name) (h : Hash32) (bytes : List ℕ) → sha256 bytes ≢ h.0 → IsRecordFor key n (Hash h) bytes → ⊥
other_hash key n h bytes d r = d r.0

-- a block's record is one for the version that its tag names, and no version makes an entry's
of_block : (key bytes : List ℕ) → Passes key 2 7 3 bytes → IsRecordFor key (Block file 7) (Version 3) bytes
of_block key bytes p = p

entry_in_version : (key bytes : List ℕ) → IsRecordFor key (Entry file) (Version 3) bytes → ⊥
entry_in_version key bytes r = r

-- what is absent, or failed, brings nothing
absent : (key : List ℕ) (n : Name) (version : ℕ) → AnswerBrings key n (Version version) Absent brought.Nothing
absent key n version = refl

no_page : (key page : List ℕ) (n : Name) → AnswerBrings key n (Version 3) Failed (brought.Page 3 page) → ⊥
no_page key page n e = absurd (cc)

-- a page is read in the version that is expected, and in no other
same_version : (bytes : List ℕ) (n : Name) (version : ℕ) (page : List ℕ) → IsReadAs n (Version 3) bytes (brought.Page version page) → version ≡ 3
same_version bytes n version page r = r.0

-- a put of a block carries its tag, one of a node its bytes as they are
tagged_block : (key page : List ℕ) → record_bytes key (Block file 7) (written.Page 3 page) ≡ record_of key 2 7 3 page
tagged_block key page = refl

plain_node : (key bytes : List ℕ) → record_bytes key (Entry file) (written.Node bytes) ≡ bytes
plain_node key bytes = refl

-- a page is no node's
page_of_entry : (page : List ℕ) → FitsName (Entry file) (written.Page 3 page) → ⊥
page_of_entry page f = f
