-- Records are alike where those are of which they are told, and a block's bytes are its record's.
use Rattle.std.proofs.Common.{◌≡◌, ◌↔◌, ℕ, Bool, IsTrue, List, length, take, Some, sym, ap, ◌∙◌, subst}
use Rattle.iris_desk.specs.declared.out.Record.{Record}
use Rattle.iris_desk.specs.declared.out.Record.TheVariants as written
use Rattle.iris_name.specs.declared.name.FileId.{FileId}
use Rattle.iris_name.specs.declared.name.Name.{Name}
use Rattle.iris_name.specs.declared.name.Name.TheVariants as name
use Rattle.iris_name.specs.Hmac.{record_of}
use Rattle.iris_jobs.specs.Chores.{AreBytesOf, FitsName, record_bytes}
use Rattle.iris_jobs.proofs.Fronts.{front_of_record}

pub same_record : (r : Bool) (s t p q : Record) → s ≡ p → t ≡ q → (IsTrue r ↔ (p ≡ q)) → IsTrue r ↔ (s ≡ t)
same_record r s t p q e f h = (λ x. (let y = h.0 x in cc), λ x. h.1 (cc))

pub block_bytes : (key : List ℕ) (n : Name) (file : FileId) (place version : ℕ) (bytes block : List ℕ) → n ≡ name.Block file place → length block ≡ 4096 → bytes ≡ record_of key file.0 place version block → length bytes ≡ 4128 → AreBytesOf key n (Some version) bytes
block_bytes key n file place version bytes block e l f g =
    let front : take 4096 bytes ≡ block = ap (take 4096) f ∙ front_of_record key file.0 place version block l in
    subst (λ m. AreBytesOf key m (Some version) bytes) (sym e) (record {
      fits = tt;
      are = f ∙ ap (record_of key file.0 place version) (sym front);
      size = λ _. g;
    })
