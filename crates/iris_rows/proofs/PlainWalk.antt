-- Resolving in the plain state as a walk, and then what is seen.
use Rattle.std.proofs.Common.{◌≡◌, ℕ, List, [], ◌∷◌, length, Option, Some, None, refl}
use Rattle.iris_plain.specs.Files.{Files, seen_at, seen_kind, through as through_seen}
use Rattle.iris_plain.specs.declared.checks.Seen.{Seen}
use Rattle.iris_plain.specs.declared.checks.Seen.TheVariants.{ADirectory, AFile, Nothing, AFileBefore}
use Rattle.iris_plain.specs.declared.files.Kind.{Kind}
use Rattle.iris_plain.specs.declared.files.Kind.TheVariants.{Dir, Bytes}
use Rattle.iris_rows.specs.Rows.{Found, Here, Missing, Through}
use Rattle.iris_rows.specs.View.{kind_of}

-- what resolving meets
pub data Reached : Type 0 where
  At : Kind → Reached
  NotThere : Reached
  Past : Reached

abbrev pub top : Option Kind → Reached
top None = NotThere
top (Some k) = At k

abbrev pub through : Option Kind → Reached → Reached
through None rest = NotThere
through (Some Dir) rest = rest
through (Some (Bytes b)) rest = Past

abbrev pub walk : Files → List (List ℕ) → Reached
walk p [] = top (p [])
walk p (n ∷ ns) = through (p []) (walk (λ q. p (n ∷ q)) ns)

abbrev pub reached : Found → Reached
reached (Here row) = At (kind_of row.file)
reached Missing = NotThere
reached Through = Past

abbrev pub seen : Reached → Seen
seen (At Dir) = ADirectory
seen (At (Bytes b)) = AFile (length b)
seen NotThere = Nothing
seen Past = AFileBefore

pub seen_walk : (ns : List (List ℕ)) (p : Files) → seen_at p ns ≡ seen (walk p ns)
seen_walk [] p = by (p []) where
  by : (o : Option Kind) → seen_kind o ≡ seen (top o)
  by None = refl
  by (Some Dir) = refl
  by (Some (Bytes b)) = refl
seen_walk (n ∷ ns) p = by (p []) (seen_walk ns (λ q. p (n ∷ q))) where
  by : (o : Option Kind) → seen_at (λ q. p (n ∷ q)) ns ≡ seen (walk (λ q. p (n ∷ q)) ns)
      → through_seen o (seen_at (λ q. p (n ∷ q)) ns) ≡ seen (through o (walk (λ q. p (n ∷ q)) ns))
  by None e = refl
  by (Some Dir) e = e
  by (Some (Bytes b)) e = refl
