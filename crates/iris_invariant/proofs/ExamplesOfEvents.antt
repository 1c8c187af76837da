-- A run of the counter: a write, a put, an eviction, and a read that fetches the block again. The core agrees after each.
use Rattle.std.proofs.Common.{◌≡◌, ◌≢◌, ◌⊎◌, inl, inr, ℕ, ◌==◌, [], ◌∷◌, Bool, true, false, cond, Option, Some, None, refl, sym, ◌∙◌, ap, subst, IsNone}
use Rattle.std.proofs.lemmas.Bool.Decides.{eqb_tells}
use Rattle.iris_name.specs.declared.name.Name.{Name}
use Rattle.iris_name.specs.declared.note.Answer.TheVariants.{Given}
use Rattle.iris_name.specs.declared.note.Expect.TheVariants.{Version}
use Rattle.iris_name.specs.declared.request.Request.{Request}
use Rattle.iris_name.specs.declared.request.Request.TheVariants.{Write, Read}
use Rattle.iris_name.specs.declared.request.Reply.TheVariants.{Done}
use Rattle.iris_name.specs.History.{Past}
use Rattle.iris_name.specs.Names.{same_name}
use Rattle.iris_history.specs.Kept.{shown_in}
use Rattle.iris_history.specs.StatusLaws.{called, got, putted}
use Rattle.iris_invariant.specs.Agrees.{Getting, Putting, Out, Cell, View, Agrees}
use Rattle.iris_invariant.specs.Events.{Elsewhere, Inserted, Moved, Still, Changed}
use Rattle.iris_invariant.specs.Saves as s
use Rattle.iris_invariant.specs.Saves.{Started}
use Rattle.iris_invariant.proofs.ExampleCounter.{block, counter, any_reply, away, view_of_block}
use Rattle.iris_invariant.proofs.Begins.{begins_put, begins_get}
use Rattle.iris_invariant.proofs.Calls.{call_keeps}
use Rattle.iris_invariant.proofs.Events.{which, which_caller, begin_keeps, put_keeps, evict_keeps, ask_keeps, got_kept}
use Rattle.iris_invariant.proofs.Saves.{start_agrees}
use Rattle.iris_history.proofs.Steady.{unchosen, no_both, true_false}

abbrev pub view0 : View
view0 = view_of_block away None false

none_live : (n : Name) (x : Bool) → ◌≡◌ {A = Option ℕ} (cond x None None) None
none_live n true = refl
none_live n false = refl

zero_gone : (n : Name) → shown_in counter [] n ≡ None
zero_gone n = none_live n (same_name block n)

cell0 : (n : Name) → view0.cell n ≡ away
cell0 n = by (same_name block n) where
  by : (x : Bool) → cond x away away ≡ away
  by true = refl
  by false = refl

never : (w : ℕ) (n : Name) (x y : Bool) → cond x (cond y false false) false ≡ false
never w n true true = refl
never w n true false = refl
never w n false y = refl

pub start : Agrees counter any_reply 0 [] view0
start = start_agrees counter any_reply [] (λ n. false) (λ n. false) view0
    (λ n. s.Gone refl refl (gone n) (λ d. no_both counter n (shown_in counter [] n) d.once (gone n)))
    (record {
      resident = λ n. ap (λ c. c.resident) (cell0 n);
      dirty = λ n. ap (λ c. c.dirty) (cell0 n);
      doomed_ = λ n. ap (λ c. c.doomed) (cell0 n);
      out = λ n. ap (λ c. c.out) (cell0 n);
      kept = λ w n. never w n (w == 1) (same_name block n);
    }) where
      gone : (n : Name) → IsNone (shown_in counter [] n)
      gone n = subst IsNone (sym (zero_gone n)) refl

-- other names
other : {A : Type 0} (n : Name) (x y : A) → same_name block n ≡ false → cond (same_name block n) x y ≡ y
other n x y h = unchosen (same_name block n) x y h

elsewhere : (c c' : Cell) (a : Option Request) (k : Bool) (k' : Bool) → Elsewhere block (view_of_block c a k) (view_of_block c' a k')
elsewhere c c' a k k' = record {
  cell = λ q d. other q c' away d ∙ sym (other q c away d);
  asked = λ w. refl;
  kept = λ w q d. ap (λ z. cond (w == 1) z false) (other q k' false d ∙ sym (other q k false d));
  pinned = λ w q d. ap (λ z. cond (w == 1) z false) (other q k' false d ∙ sym (other q k false d));
}

abbrev pub write : Request
write = Write [] 0 []

abbrev pub past1 : Past
past1 = called 0 1 write Done ∷ []

abbrev pub fresh : Cell
fresh = record { resident = true; dirty = true; doomed = false; settled = true; out = None }

pub wrote : Agrees counter any_reply 0 past1 (view_of_block fresh None false)
wrote = call_keeps counter any_reply 0 [] view0 (view_of_block fresh None false) start 1 write Done (record {
  idle = λ n o f. absurd (let g = sym (ap (λ c. c.out) (cell0 n)) ∙ f in cc);
  moved = λ n. moved n (which block n);
  asked = λ w ne. refl;
  freed = λ n. never 1 n true (same_name block n);
  kept = λ w n ne. refl;
  pinned = λ w n ne k r r'. refl;
  again = λ w n ne k r r'. absurd (true_false _ k (never w n (w == 1) (same_name block n)));
}) where
  moved : (n : Name) → (block ≡ n) ⊎ (same_name block n ≡ false) → Moved counter [] (called 0 1 write Done) n (view0.cell n) ((view_of_block fresh None false).cell n)
  moved n (inl e) = subst (λ z. Moved counter [] (called 0 1 write Done) z (view0.cell z) ((view_of_block fresh None false).cell z)) e
      (Changed (λ h. cc) (λ l. absurd (cc)) (λ l. record { resident = refl; dirty = refl; doomed = refl }) (λ g. absurd (cc)) refl)
  moved n (inr d) = Still (other n _ None d ∙ sym (other n _ None d)) (other n fresh away d ∙ sym (other n away away d))

-- its put begins, by the flusher
abbrev pub putting : Out
putting = record { who = 0; since = 1; request = None; doing = Putting (1 ∷ []); crowded = false; touched = false }

abbrev pub going : Cell
going = record { resident = true; dirty = true; doomed = false; settled = true; out = Some putting }

pub began : Agrees counter any_reply 0 past1 (view_of_block going None false)
began = begin_keeps counter any_reply 0 past1 (view_of_block fresh None false) (view_of_block going None false) wrote block putting
    (record { rest = elsewhere fresh going None false false; pins = record { kept = λ w. refl; pinned = λ w. refl }; out = refl; resident = refl; dirty = refl; doomed = refl; settled = refl })
    (begins_put counter block any_reply 0 past1 0 1 None refl going (1 ∷ []) false (wrote.marks block) refl refl refl refl (λ e. absurd (cc))) (inl refl)

abbrev pub past2 : Past
past2 = putted 0 0 1 block (1 ∷ []) true ∷ past1

abbrev pub clean : Cell
clean = record { resident = true; dirty = false; doomed = false; settled = true; out = None }

pub stored : Agrees counter any_reply 0 past2 (view_of_block clean None false)
stored = (put_keeps counter any_reply 0 past1 (view_of_block going None false) (view_of_block clean None false) began block putting refl (1 ∷ []) refl true
    (record { rest = elsewhere going clean None false false; pins = record { kept = λ w. refl; pinned = λ w. refl }; out = refl; resident = refl; dirty = refl; doomed = refl; settled = refl })).1

pub evicted : Agrees counter any_reply 0 past2 (view_of_block away None false)
evicted = evict_keeps counter any_reply 0 past2 (view_of_block clean None false) (view_of_block away None false) stored block
    (record { rest = elsewhere clean away None false false; pins = record { kept = λ w. refl; pinned = λ w. refl }; clean = refl; idle = refl; unpinned = λ w. never w block (w == 1) true; resident = refl; dirty = refl; doomed = refl; out = refl })

-- a read asks for it
abbrev pub read : Request
read = Read [] 0 1

pub asked : Agrees counter any_reply 0 past2 (view_of_block away (Some read) false)
asked = ask_keeps counter any_reply 0 past2 (view_of_block away None false) (view_of_block away (Some read) false) evicted 1 (record {
  idle = λ n o f. absurd (let g = sym (ap (λ c. c.out) (cell0 n)) ∙ f in cc);
  cell = λ n. refl;
  asked = λ w ne. by w ne (which_caller 1 w);
  kept = λ w n. refl;
  pinned = λ w n. refl;
}) where
  by : (w : ℕ) → w ≢ 1 → (w ≡ 1) ⊎ (w ≢ 1) → cond (w == 1) (Some read) None ≡ cond (w == 1) None None
  by w ne h = no (w == 1) (eqb_tells w 1) where
    nothing : Bool → Option Request
    nothing z = cond z None None

    no : (x : Bool) → ((x ≡ true) × (w ≡ 1)) ⊎ ((x ≡ false) × (w ≢ 1)) → cond x (Some read) None ≡ cond x None None
    no x (inl h) = absurd (ne h.1)
    no x (inr h) = ap (λ z. cond z (Some read) None) h.0 ∙ sym (ap nothing h.0)

abbrev pub getting : Out
getting = record { who = 1; since = 2; request = Some read; doing = Getting (Version 1); crowded = false; touched = false }

abbrev pub fetched : Cell
fetched = record { resident = false; dirty = false; doomed = false; settled = false; out = Some getting }

pub fetching : Agrees counter any_reply 0 past2 (view_of_block fetched (Some read) false)
fetching = begin_keeps counter any_reply 0 past2 (view_of_block away (Some read) false) (view_of_block fetched (Some read) false) asked block getting
    (record { rest = elsewhere away fetched (Some read) false false; pins = record { kept = λ w. refl; pinned = λ w. refl }; out = refl; resident = refl; dirty = refl; doomed = refl; settled = refl })
    (begins_get counter block any_reply 0 past2 1 2 (Some read) refl fetched (Version 1) (asked.marks block) refl refl (refl, refl) tt (λ ch. refl)) (inr refl)

-- and has it
pub fetched_right : Agrees counter any_reply 0 (got 0 1 2 block (Given (1 ∷ [])) ∷ past2) (view_of_block clean (Some read) true)
fetched_right = (got_kept counter any_reply 0 past2 (view_of_block fetched (Some read) false) (view_of_block clean (Some read) true) fetching block getting refl (Version 1) refl (Given (1 ∷ []))
    (record {
      rest = elsewhere fetched clean (Some read) false true;
      out = refl;
      dirty = refl;
      doomed = refl;
      kept = refl;
      others = λ w ne. by w ne (eqb_tells w 1);
      brings = Inserted refl refl refl refl refl;
    })).1 where
      by : (w : ℕ) → w ≢ 1 → (((w == 1) ≡ true) × (w ≡ 1)) ⊎ (((w == 1) ≡ false) × (w ≢ 1)) → cond (w == 1) true false ≡ cond (w == 1) false false
      by w ne (inl h) = absurd (ne h.1)
      by w ne (inr h) = ap (λ z. cond z true false) h.0 ∙ sym (ap (λ z. cond z false false) h.0)
