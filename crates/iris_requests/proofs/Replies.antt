-- The table's reply to a request that is planned, and the table after it.
use Rattle.std.proofs.Common.{◌≡◌, ℕ, List, Bool, true, false, cond, Option, Some, None, refl, sym, ◌∙◌, ap, subst}
use Rattle.std.specs.Prelude.{is_none}
use Rattle.iris_history.specs.Kept.{takes_step}
use Rattle.iris_name.specs.declared.request.PlainError.{PlainError}
use Rattle.iris_name.specs.declared.request.PlainError.TheVariants.{BadPath}
use Rattle.iris_name.specs.declared.request.Reply.{Reply}
use Rattle.iris_name.specs.declared.request.Reply.TheVariants.{Plain}
use Rattle.iris_name.specs.declared.request.Request.{Request}
use Rattle.iris_name.specs.declared.request.Request.TheVariants.{Mkdir, Create, Write, Read, Resize, Stat, List as ListNames, Rename, Remove, Sync, Root, Reclaim, Probe}
use Rattle.iris_plain.specs.Checks.{on_names}
use Rattle.iris_plain.specs.Steps.{Judged, Accepted, PlainReplies, OnNames}
use Rattle.iris_requests.specs.Planned.{after_reply}
use Rattle.iris_requests.specs.Served.{IsPlannable}
use Rattle.iris_rows.specs.Changes.{stepped, accepted_change, table_verdict}
use Rattle.iris_rows.specs.Rows.{Table}
use Rattle.iris_rows.specs.Sound.{IsSound}
use Rattle.iris_rows.specs.View.{view}
use Rattle.iris_rows.proofs.ViewOfStep.{verdict_same}
use Rattle.iris_table.specs.Replies.{TableReplies, Told}

-- the table's checks are the plain file system's
told : (t : Table) (request : Request) (reply : Reply) → IsSound t → Told t request reply → PlainReplies (view t) request reply
told t request reply s h = subst (λ v. Judged v (Accepted (view t).files request reply) reply) (verdict_same t request s.good) h

-- so what is told by them is the table's reply
pub replies_so : (order : List ℕ) (t : Table) (request : Request) (reply : Reply) → IsPlannable request → IsSound t → Told t request reply → TableReplies order t request reply
replies_so order t (Mkdir path) reply p s h = told t (Mkdir path) reply s h
replies_so order t (Create path) reply p s h = told t (Create path) reply s h
replies_so order t (Write path offset bytes) reply p s h = told t (Write path offset bytes) reply s h
replies_so order t (Read path offset count) reply p s h = told t (Read path offset count) reply s h
replies_so order t (Resize path size) reply p s h = told t (Resize path size) reply s h
replies_so order t (Stat path) reply p s h = told t (Stat path) reply s h
replies_so order t (ListNames path after) reply p s h = told t (ListNames path after) reply s h
replies_so order t (Rename from to) reply p s h = told t (Rename from to) reply s h
replies_so order t (Remove path) reply p s h = absurd p
replies_so order t Sync reply p s h = absurd p
replies_so order t Root reply p s h = absurd p
replies_so order t Reclaim reply p s h = absurd p
replies_so order t (Probe at) reply p s h = absurd p

-- the first check that applies is the reply
pub error_replies : (order : List ℕ) (t : Table) (request : Request) (e : PlainError) → IsPlannable request → IsSound t → table_verdict t request ≡ Some e → TableReplies order t request (Plain e)
error_replies order t request e p s v =
    replies_so order t request (Plain e) p s (subst (λ w. Judged w (Accepted (view t).files request (Plain e)) (Plain e)) (sym v) refl)

-- none applies, and the reply is that of the accepted request
pub accepted_replies : (order : List ℕ) (t : Table) (request : Request) (reply : Reply) → IsPlannable request → IsSound t → table_verdict t request ≡ None → Accepted (view t).files request reply
    → TableReplies order t request reply
accepted_replies order t request reply p s v h = replies_so order t request reply p s (subst (λ w. Judged w (Accepted (view t).files request reply) reply) (sym v) h)

-- a text that spells no path
pub bad_path : (o : Option (List (List ℕ))) (checks : List (List ℕ) → Option PlainError) → o ≡ None → on_names o checks ≡ Some BadPath
bad_path o checks e = ap (λ z. on_names z checks) e

-- the checks of the names that a text spells
pub spelled_checks : (o : Option (List (List ℕ))) (names : List (List ℕ)) (checks : List (List ℕ) → Option PlainError) → o ≡ Some names → on_names o checks ≡ checks names
spelled_checks o names checks e = ap (λ z. on_names z checks) e

pub on_spelled : (o : Option (List (List ℕ))) (names : List (List ℕ)) (P : List (List ℕ) → Type 0) → o ≡ Some names → P names → OnNames o P
on_spelled o names P e h = subst (λ z. OnNames z P) (sym e) h

same_either : (b : Bool) (x y : Table) → x ≡ y → cond b x y ≡ y
same_either true x y e = e
same_either false x y e = refl

-- what changes nothing when it is accepted leaves the table
pub unchanged_after : (t : Table) (request : Request) (reply : Reply) → accepted_change t request ≡ t → after_reply t request reply ≡ t
unchanged_after t request reply e = same_either (takes_step reply) (stepped t request) t (same_either (is_none (table_verdict t request)) (accepted_change t request) t e)
