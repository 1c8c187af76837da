use Rattle.std.proofs.Common.{◌∙◌}
use Rattle.std.proofs.lemmas.Bool.Decides.{Decides-eqb}
use Rattle.std.proofs.Common.{sym}
use Rattle.std.proofs.lemmas.Slice.Eq.{slice_eq-Decides}
use Rattle.iris.proofs.Keys.{two_words, words_some, words_none, words_other}
use Rattle.iris.proofs.words.read_command.Goals as goal

pub returns-in-len2-clause-some : goal.returns-in-len2-clause-some
returns-in-len2-clause-some c =
    let two = two_words c.args.words.now _ c.in-len2.len_at_least c.in-len2.len_below in
    let command = (slice_eq-Decides Decides-eqb _ _ c.eq.result c.eq.ensures).0 c.if-eq.true in
    words_some _ _ _ _ c.read_key.result two command c.read_key.ensures.some

pub returns-in-len2-clause-none : goal.returns-in-len2-clause-none
returns-in-len2-clause-none c =
    words_none _ _ _ _ c.read_key.result (two_words c.args.words.now _ c.in-len2.len_at_least c.in-len2.len_below) c.read_key.ensures.none

pub returns-in_default-2-clause-none : goal.returns-in_default-2-clause-none
returns-in_default-2-clause-none c =
    words_other _ _ _ _ (two_words c.args.words.now _ c.in-len2.len_at_least c.in-len2.len_below)
    (λ same. let is = (slice_eq-Decides Decides-eqb _ _ c.eq.result c.eq.ensures).1 same in cc (sym is ∙ c.if-eq.false))
