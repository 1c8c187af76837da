-- Beside the run of the counter: what is kept a little otherwise doesn't agree with the history.
use Rattle.std.proofs.Common.{◌≡◌, inl, inr, ℕ, [], ◌∷◌, true, false, Option, Some, None, refl, sym, ap, get_or, arith}
use Rattle.iris_name.specs.declared.note.Answer.TheVariants.{Given}
use Rattle.iris_name.specs.declared.request.Reply.TheVariants.{Done}
use Rattle.iris_name.specs.History.{Past}
use Rattle.iris_history.specs.StatusLaws.{called, got}
use Rattle.iris_invariant.specs.Agrees as a
use Rattle.iris_invariant.specs.Agrees.{Getting, Putting, Out, Cell, View, Mark, Touch, Agrees}
use Rattle.iris_invariant.proofs.ExampleCounter.{block, counter, any_reply, view_of_block, differ}
use Rattle.iris_invariant.proofs.ExamplesOfEvents.{write, past1, past2, putting, fresh, clean, going, read, getting}

-- the view with the block so, and nothing asked or kept
abbrev keeps : Cell → View
keeps c = view_of_block c None false

abbrev agrees : Past → View → Type 0
agrees past v = Agrees counter any_reply 0 past v

-- a written block that isn't marked, though no put was made; or that is absent, though it is marked
written_unmarked : agrees past1 (keeps clean) → ⊥
written_unmarked h = by (h.marks block) where
  by : Mark counter block past1 true false → ⊥
  by (a.Dirty live r m un) = differ (sym m)
  by (a.Unsure r m u) = differ (sym m)
  by (a.Clean m c) = c.stored
  by (a.Doomed r m d) = differ r
  by (a.Gone r m g nd) = differ r

written_absent : agrees past1 (keeps (record fresh { resident = false })) → ⊥
written_absent h = differ (sym ((h.listed block).dirty refl))

-- a block that lives, listed as doomed
lives_doomed : agrees past1 (keeps (record fresh { doomed = true })) → ⊥
lives_doomed h = differ ((h.listed block).doomed refl)

-- a put of other bytes, or of an unsettled name, or for a request that nobody asks
abbrev putting_so : Out → Cell
putting_so o = record fresh { out = Some o }

put_other_bytes : agrees past1 (keeps (putting_so (record putting { doing = Putting (2 ∷ []) }))) → ⊥
put_other_bytes h = let e : 2 ∷ [] ≡ 1 ∷ [] = (h.outs block _ refl).first.0 in let n : 2 ≡ 1 = ap (λ xs. get_or xs 0 0) e in absurd (omega (arith, n))

put_unsettled : agrees past1 (keeps (record going { settled = false })) → ⊥
put_unsettled h = differ (sym ((h.outs block _ refl).now.1 refl))

put_for_nobody : agrees past1 (keeps (putting_so (record putting { request = Some write }))) → ⊥
put_for_nobody h = elim (h.asks block _ refl) [ inl e ↦ absurd (let z = e in cc) | inr e ↦ absurd (let z = e in cc) ]

-- a put that stays untouched while the block is written again
abbrev past1_again : Past
past1_again = called 0 1 write Done ∷ past1

put_untouched : agrees past1_again (keeps going) → ⊥
put_untouched h = by (h.outs block _ refl).touch where
  number : Option ℕ → ℕ
  number None = 0
  number (Some v) = v

  by : Touch counter block 1 past1_again false → ⊥
  by (a.Untouched f s) = let n : 1 ≡ 2 = ap number (s.1 (omega arith)).0 in absurd (omega (arith, n))
  by (a.Touched e ns) = differ (sym e)

-- a get of a block that is marked
get_of_marked : agrees past2 (view_of_block (record fresh { out = Some getting }) (Some read) false) → ⊥
get_of_marked h = differ ((h.outs block _ refl).now.unmarked refl)

-- what is kept for its caller, and isn't pinned
kept_unpinned : agrees (got 0 1 2 block (Given (1 ∷ [])) ∷ past2) (record (view_of_block clean (Some read) true) { pinned = λ w q. false }) → ⊥
kept_unpinned h = differ (sym (h.pins 1 block refl refl).1)
