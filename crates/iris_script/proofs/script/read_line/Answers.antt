use Rattle.iris_script.proofs.script.read_line.Goals as goal

pub returns-clause-none : goal.returns-clause-none
returns-clause-none c = rw (c.as_slice.ensures.value, c.in_ok-words.ensures) at c.read_words.ensures.none
