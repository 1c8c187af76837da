-- A plan that drafts nothing answers a request that changes nothing.
use Rattle.std.proofs.Common.{◌≡◌, ◌∙◌, ℕ, List, Some, refl, sym, subst}
use Rattle.iris_blocks.specs.Paged.{Paged, Shows, held_page}
use Rattle.iris_cache.specs.Resident.{Resident}
use Rattle.iris_name.specs.declared.request.PlainError.{PlainError}
use Rattle.iris_name.specs.declared.request.Reply.{Reply}
use Rattle.iris_name.specs.declared.request.Reply.TheVariants.{Plain}
use Rattle.iris_name.specs.declared.request.Request.{Request}
use Rattle.iris_records.specs.Shown.{shown}
use Rattle.iris_requests.specs.declared.planned.Counters.{Counters}
use Rattle.iris_requests.specs.declared.planned.Planned.{Planned}
use Rattle.iris_requests.specs.Planned.{IsShownBy, LeadsTo, Fulfills, after_reply}
use Rattle.iris_requests.specs.Served.{IsPlannable}
use Rattle.iris_requests.proofs.Replies.{error_replies}
use Rattle.iris_requests.proofs.ShownTables.{no_changes, no_pages, paths_pictured}
use Rattle.iris_rows.specs.Changes.{table_verdict}
use Rattle.iris_rows.specs.Rows.{Table}
use Rattle.iris_table.specs.Replies.{TableReplies}

-- a reply with nothing drafted
abbrev pub unchanged_plan : Reply → Counters → Planned
unchanged_plan reply k = record { reply = reply; draft = no_changes; pages = no_pages; counters = k }

module _ (order : List ℕ) (t : Table) (c : Resident) (b : Paged) (k : Counters) (s : IsShownBy order t c b k) where
  -- it leads to the same table
  leads_nowhere : (reply : Reply) → LeadsTo order t t c b (unchanged_plan reply k)
  leads_nowhere reply = record {
    drafts = (paths_pictured order t c b k s no_changes refl).drafts;
    changes = record {
      to = record { changed = λ n change e. absurd (cc); others = λ n is e. refl };
      differs = λ n change e. absurd (cc);
      held = λ n change e. absurd (cc);
    };
    shows = λ e lands n h held. s.shows n h (sym (lands n) ∙ held);
    next = s.next;
    age = s.age;
  }

  pub answers_unchanged : (request : Request) (reply : Reply) (p : Planned) → p ≡ unchanged_plan reply k → TableReplies order t request reply → after_reply t request reply ≡ t → Fulfills order t request c b p
  answers_unchanged request reply p is replies same =
      subst (λ z. Fulfills order t request c b z) (sym is) (record { replies = replies; leads = subst (λ u. LeadsTo order t u c b (unchanged_plan reply k)) (sym same) (leads_nowhere reply) })

  -- a plain error changes nothing
  pub answers_error : (request : Request) (e : PlainError) (p : Planned) → p ≡ unchanged_plan (Plain e) k → IsPlannable request → table_verdict t request ≡ Some e → Fulfills order t request c b p
  answers_error request e p is served v = answers_unchanged request (Plain e) p is (error_replies order t request e served s.sound v) refl
