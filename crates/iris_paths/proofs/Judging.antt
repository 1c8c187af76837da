-- Replies by the first check that applies, and why a plan stops.
use Rattle.std.proofs.Common.{◌≡◌, ◌∙◌, ap, ℕ, List, Bool, Option, Some, None, inr, refl, sym, subst}
use Rattle.iris_name.specs.declared.request.PlainError.{PlainError}
use Rattle.iris_name.specs.declared.request.Reply.{Reply}
use Rattle.iris_name.specs.declared.request.Reply.TheVariants.{Plain, Stat, Names}
use Rattle.iris_name.specs.declared.name.FileId.{FileId}
use Rattle.iris_name.specs.declared.name.Name.{Name}
use Rattle.iris_node.specs.Trees.{Shown}
use Rattle.iris_cache.specs.declared.held.Short.{Short}
use Rattle.iris_cache.specs.declared.held.Short.TheVariants.{Need, NoMemory}
use Rattle.iris_cache.specs.Resident.{Resident}
use Rattle.iris_cache.specs.Drafted.{Drafted}
use Rattle.iris_plain.specs.declared.checks.Seen.{Seen}
use Rattle.iris_plain.specs.Checks.{is_directory_seen, size_of}
use Rattle.iris_plain.specs.Steps.{Judged}
use Rattle.iris_treepaths.specs.Rows.{Row, row_name, HasRows}
use Rattle.iris_treepaths.specs.Ways.{following, along_page}
use Rattle.iris_treepaths.specs.Needs.{Listed, IsMetShort}
use Rattle.std.proofs.Common.{map}
use Rattle.iris_paths.specs.declared.entering.Place.TheVariants.{In}
use Rattle.iris_paths.specs.Pictured.{Pictured, IsPathLack, IsPathShort, every}
use Rattle.iris_paths.specs.Listing.{most_names, IsListing, IsListed}
use Rattle.iris_paths.specs.Entering.{no_directory, IsEntered}
use Rattle.iris_paths.proofs.Reaching.{listed}
use Rattle.iris_paths.proofs.Entered.{rows_there, one_directory}

pub refused : (o : Option PlainError) (e : PlainError) (Right : Type 0) → o ≡ Some e → Judged o Right (Plain e)
refused o e Right h = subst (λ x. Judged x Right (Plain e)) (sym h) refl

pub accepted : (o : Option PlainError) (reply : Reply) (Right : Type 0) → o ≡ None → Right → Judged o Right reply
accepted o reply Right h r = subst (λ x. Judged x Right reply) (sym h) r

pub stat_is : (b : Bool) (n : ℕ) (s t : Seen) → b ≡ is_directory_seen s → n ≡ size_of s → t ≡ s → Stat b n ≡ Stat (is_directory_seen t) (size_of t)
stat_is b n s t p q e = ap (λ x. Stat x n) (p ∙ ap is_directory_seen (sym e)) ∙ ap (λ y. Stat (is_directory_seen t) y) (q ∙ ap size_of (sym e))

-- a plan that meets more, and speaks of fewer tables, lacks what another lacks
pub lack_short : (key : List ℕ) (also also2 : Shown → Shown → Type 0) (reached reached2 : Shown → Name → Type 0) (d : Drafted) (c : Resident) (e : Short)
    → ((old new : Shown) → also2 old new → also old new) → ((t : Shown) (n : Name) → reached t n → reached2 t n) → IsPathLack key also reached d c e → IsPathShort key also2 reached2 d c e
lack_short key also also2 reached reached2 d c (Need n x) f g h = record {
  unset = h.unset;
  absent = h.absent;
  needed = λ old new met pic. let w = h.needed old new met (pic.0, f old new pic.1) in (g new n w.0, w.1);
}
lack_short key also also2 reached reached2 d c NoMemory f g h = tt

-- a page of the directory at a path is its listing
pub lists : (d : Drafted) (c : Resident) (names : List (List ℕ)) (dir : FileId) (after : List ℕ) (page : List (List ℕ)) → IsEntered d c names (In dir)
    → ((key : List ℕ) (old new : Shown) (rows : List Row) → Listed key dir d c old new rows → page ≡ map row_name (following after most_names rows))
    → (key : List ℕ) (met : List (List ℕ) → Seen) (old new : Shown) → Pictured key met d c old new → Judged (no_directory (met names)) (IsListing new key names after (Names page)) (Names page)
lists d c names dir after page entered is key met old new pic =
    let at = entered.1 key met old new pic in
    accepted (no_directory (met names)) (Names page) (IsListing new key names after (Names page)) (ap no_directory at.stands) (λ other above rows leads has.
    let own = subst (λ i. HasRows new key i rows) (one_directory names dir other above key met new at leads) has in
    ap Names (is key old new rows (listed dir rows pic own)))

-- what a page lacks, its listing lacks
pub page_lacks : (d : Drafted) (c : Resident) (names : List (List ℕ)) (dir : FileId) (after : List ℕ) (e : Short) (key : List ℕ) → IsEntered d c names (In dir)
    → IsMetShort (Listed key dir d c) (along_page after most_names key) d c dir e → IsPathShort key every (IsListed key names after) d c e
page_lacks d c names dir after (Need n x) key entered h = record {
  unset = h.unset;
  absent = h.absent;
  needed = λ old new met pic.
      let at = entered.1 key met old new pic.0 in
      let r = rows_there names dir key met d c old new pic.0 at in
      let w = h.needed old new r.0 (listed dir r.0 pic.0 r.1) in
      (inr (record { dir = dir; above = at.above; rows = r.0; leads = at.leads; has = r.1; met = w.0 }), w.1);
}
page_lacks d c names dir after NoMemory key entered h = tt
