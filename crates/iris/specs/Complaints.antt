-- What a run that ended early is told as, on standard error.
use Rattle.std.specs.Prelude.{ℕ, ◌==◌, List, ◌++◌, Option, Some, None, codes, decimal, if◌then◌else◌}

-- bad words, or the line that is no request
abbrev pub bad_form : ℕ → List ℕ
bad_form line = if line == 0 then codes "iris: bad words" else (codes "iris: line " ++ (decimal line ++ codes " is no request"))

-- the script is too long, or the line that names a client above 16
abbrev pub too_much : ℕ → List ℕ
too_much line = if line == 0 then codes "iris: the script is too long" else (codes "iris: line " ++ (decimal line ++ codes " names a client above 16"))

-- the text for a status and its line, none where all was served and printed
abbrev pub complaint_of : ℕ → ℕ → Option (List ℕ)
complaint_of status line =
    if status == 2 then Some (bad_form line) else
    (if status == 3 then Some (codes "iris: the script can't be read") else
    (if status == 4 then Some (codes "iris: the output can't be written") else
    (if status == 7 then Some (too_much line) else
    (if status == 8 then Some (codes "iris: out of memory") else None))))
