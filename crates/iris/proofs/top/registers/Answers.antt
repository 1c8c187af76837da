use Rattle.std.proofs.Common.{◌≡◌, ◌∙◌, IfSome, subst, sym, IsTrue}
use Rattle.std.specs.Prelude.{◌↔◌}
use Rattle.iris.specs.Notes.{replies_of, any_refused}
use Rattle.iris.specs.Top.{IsPrinted}
use Rattle.iris.proofs.Ends.{printed_end, refused_end, judged_end, words_end, cut_end, honest_told, bad_line_end, other_line_end, long_end}
use Rattle.iris.proofs.top.registers.Goals as goal

pub returns-clause-printed : goal.returns-clause-printed
returns-clause-printed g c h = printed_end _ _ _ _ _ _ _ _ _ _ _ _ _ _ _ c.run-ended.result c.requires.fresh c.run-ended.ensures (subst IsPrinted c.status.ensures h)

pub returns-clause-refused : goal.returns-clause-refused
returns-clause-refused g c h = subst (λ n. IfSome (g.G.Log.notes c.run-ended.new.log) (λ notes. (n ≡ 1) ↔ IsTrue (any_refused (replies_of notes)))) (sym c.status.ensures) (refused_end _ _ _ _ _ _ _ _ _ _ _ _ _ _ _ c.run-ended.result c.requires.fresh c.run-ended.ensures (subst IsPrinted c.status.ensures h))

pub returns-clause-judged : goal.returns-clause-judged
returns-clause-judged g c = judged_end _ _ _ _ _ _ _ _ _ _ _ _ _ _ _ c.run-ended.result c.requires.fresh c.run-ended.ensures

pub returns-clause-bad_words : goal.returns-clause-bad_words
returns-clause-bad_words g c = rw (c.status.ensures, c.line.ensures) (words_end _ _ _ _ _ _ _ _ _ _ _ _ _ _ _ c.run-ended.result c.run-ended.ensures)

pub returns-clause-honest : goal.returns-clause-honest
returns-clause-honest g c = λ master spoken form x y z. rw c.status.ensures (honest_told _ _ _ _ _ _ _ _ _ _ _ _ _ _ _ c.run-ended.result c.requires.fresh c.run-ended.ensures master spoken form x y z)

pub returns-clause-cut : goal.returns-clause-cut
returns-clause-cut g c h = cut_end _ _ _ _ _ _ _ _ _ _ _ _ _ _ _ c.run-ended.result c.requires.fresh c.run-ended.ensures (sym c.status.ensures ∙ h)

pub returns-clause-bad_line : goal.returns-clause-bad_line
returns-clause-bad_line g c = rw (c.status.ensures, c.line.ensures) (bad_line_end _ _ _ _ _ _ _ _ _ _ _ _ _ _ _ c.run-ended.result c.run-ended.ensures)

pub returns-clause-other_lines : goal.returns-clause-other_lines
returns-clause-other_lines g c = rw (c.status.ensures, c.line.ensures) (other_line_end c.run-ended.result)

pub returns-clause-too_long : goal.returns-clause-too_long
returns-clause-too_long g c = rw c.status.ensures (long_end _ _ _ _ _ _ _ _ _ _ _ _ _ _ _ c.run-ended.result c.run-ended.ensures)
