-- What the plans that read paths answer is the table's reply.
use Rattle.std.proofs.Common.{◌≡◌, inl, ℕ, List, map, Option, Some, None, refl, sym, ◌∙◌, ap, subst}
use Rattle.iris_name.specs.declared.request.PlainError.{PlainError}
use Rattle.iris_name.specs.declared.request.Reply.{Reply}
use Rattle.iris_name.specs.declared.request.Reply.TheVariants.{Names, Stat as StatIs}
use Rattle.iris_name.specs.declared.request.Request.{Request}
use Rattle.iris_name.specs.declared.request.Request.TheVariants.{Stat, List as ListNames}
use Rattle.iris_name.specs.Paths.{names_of}
use Rattle.iris_node.specs.Unfolded.{id_of}
use Rattle.iris_plain.specs.Checks.{unresolved, is_full, is_directory_seen, size_of, on_names, verdict}
use Rattle.iris_plain.specs.Files.{seen_at}
use Rattle.iris_plain.specs.Pages.{IsPage}
use Rattle.iris_plain.specs.Steps.{Judged, Accepted, OnNames, plain_verdict, has_entry_named}
use Rattle.iris_plain.specs.declared.checks.Seen.{Seen}
use Rattle.iris_plain.specs.declared.checks.Seen.TheVariants.{ADirectory, AFile, Nothing, AFileBefore}
use Rattle.iris_treepaths.specs.Rows.{row_name}
use Rattle.iris_treepaths.specs.Ways.{following}
use Rattle.iris_paths.specs.Entering.{no_directory}
use Rattle.iris_paths.specs.Listing.{IsListing, most_names}
use Rattle.iris_rows.specs.Changes.{seen_in}
use Rattle.iris_rows.specs.Rows.{Table, root_row}
use Rattle.iris_rows.specs.View.{view}
use Rattle.iris_records.specs.Shown.{shown}
use Rattle.iris_rows.specs.Sound.{AreGood}
use Rattle.iris_rows.proofs.ViewByPath.{met_same}
use Rattle.iris_rows.proofs.ViewOfStep.{verdict_same}
use Rattle.iris_forest.specs.Places.{rows_of}
use Rattle.iris_forest.proofs.PagesOfDirectories.{rows_make_pages}
use Rattle.iris_forest.proofs.PathsInTable.{leads_at}
use Rattle.iris_forest.proofs.RowsOfDirectory.{have_rows}
use Rattle.iris_plan_laws.specs.Replies.{ListsAreReplies, StatsAreReplies}
use Rattle.iris_plan_laws.proofs.AcceptedRequests.{directory_leads}
use Rattle.iris_plan_laws.proofs.Pictured.{pictured_paths}

-- what a plan judges by the same check
judged : (v w : Option PlainError) (P Q : Type 0) (reply : Reply) → v ≡ w → (v ≡ None → P → Q) → Judged v P reply → Judged w Q reply
judged v w P Q reply e f h = subst (λ z. Judged z Q reply) e (by v f h) where
  by : (v : Option PlainError) → (v ≡ None → P → Q) → Judged v P reply → Judged v Q reply
  by None f h = f refl h
  by (Some x) f h = h

on_spelled : (o : Option (List (List ℕ))) (names : List (List ℕ)) (P : List (List ℕ) → Type 0) → o ≡ Some names → P names → OnNames o P
on_spelled o names P e h = subst (λ z. OnNames z P) (sym e) h

checked : (t : Table) (request : Request) (o : Option (List (List ℕ))) (names : List (List ℕ)) (checks : List (List ℕ) → Option PlainError) → AreGood t.visible → o ≡ Some names
    → verdict (seen_in t) (is_full t.age) request ≡ on_names o checks → checks names ≡ plain_verdict (view t) request
checked t request o names checks g n e = sym (ap (λ z. on_names z checks) n) ∙ sym e ∙ verdict_same t request g

is_directory : (s : Seen) → no_directory s ≡ None → s ≡ ADirectory
is_directory ADirectory e = refl
is_directory (AFile n) e = absurd (cc)
is_directory Nothing e = absurd (cc)
is_directory AFileBefore e = absurd (cc)

pub lists_are_replies : ListsAreReplies
lists_are_replies order t path names after d c reply p n says =
    let s = p.sound in
    judged (no_directory (seen_in t names)) (plain_verdict (view t) (ListNames path after)) (IsListing (shown order t) order names after reply) (Accepted (view t).files (ListNames path after) reply) reply
    (checked t (ListNames path after) (names_of path) names (λ names. no_directory (seen_in t names)) s.good n refl)
    (λ e listing. (let l = directory_leads t names (is_directory (seen_in t names) e) in
    let at = leads_at order t names (root_row t) (record { id = l.0; file = None; inside = l.1 }) (id_of 0) s (inl (refl, refl)) l.2 in
    on_spelled (names_of path) names (λ names. (page : List (List ℕ)) × ((reply ≡ Names page) × IsPage (has_entry_named (view t).files names) 64 after page)) n (
      map row_name (following after most_names (rows_of order l.1)),
      (
        listing (id_of l.0) at.above (rows_of order l.1) at.leads (have_rows order t l.0 l.1 s at.stands),
        rows_make_pages order t names after l.0 l.1 s l.2,
      ),
    )))
    (says (seen_in t) (shown order t) (shown order t) (pictured_paths order t d c p))

pub stats_are_replies : StatsAreReplies
stats_are_replies order t path names d c reply p n says =
    let s = p.sound in
    judged (unresolved (seen_in t names)) (plain_verdict (view t) (Stat path)) (reply ≡ StatIs (is_directory_seen (seen_in t names)) (size_of (seen_in t names))) (Accepted (view t).files (Stat path) reply) reply
    (checked t (Stat path) (names_of path) names (λ names. unresolved (seen_in t names)) s.good n refl)
    (λ e r. on_spelled (names_of path) names (λ names. reply ≡ StatIs (is_directory_seen (seen_at (view t).files names)) (size_of (seen_at (view t).files names))) n
    (r ∙ ap (λ f. StatIs (is_directory_seen (f names)) (size_of (f names))) (sym (met_same t s.good))))
    (says (seen_in t) (shown order t) (shown order t) (pictured_paths order t d c p))
