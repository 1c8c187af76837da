-- The replies that a session has given so far, as the text that will be printed.
use Rattle.std.specs.Prelude.{ℕ, ◌+◌, List, [], ◌∷◌, ◌++◌, Bool, false, ◌||◌}
use Rattle.iris_name.specs.declared.request.Reply.{Reply}
use Rattle.iris_script.specs.Printing.{reply_line}
use Rattle.iris.specs.Notes.{is_refused}

-- The text, how many replies it has, and whether one of them is a refusal.
pub record Said : Type 0 where
  pub text : List ℕ
  pub count : ℕ
  pub refused : Bool

-- with one reply more
abbrev pub saying : Said → Reply → Said
saying said reply = record {
  text = said.text ++ reply_line 1 (said.count + 1) reply;
  count = said.count + 1;
  refused = said.refused || is_refused reply;
}

-- with these replies more, in order
abbrev pub saying_all : Said → List Reply → Said
saying_all said [] = said
saying_all said (reply ∷ replies) = saying_all (saying said reply) replies

-- no replies
abbrev pub silent : Said
silent = record { text = []; count = 0; refused = false }
