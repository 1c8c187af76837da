-- A script: which client asks what on a line, and which line is the first that can't be served.
use Rattle.std.specs.Prelude.{◌≡◌, ◌⊎◌, ℕ, ◌+◌, ◌<◌, ◌≤◌, Bool, true, false, List, [], ◌∷◌, ◌++◌, length, map, codes}
use Rattle.std.specs.List.{All}
use Rattle.std.specs.Str.Lines.{strip_carriage_return}
use Rattle.iris_name.specs.declared.request.Request.{Request}
use Rattle.iris_name.specs.declared.request.Request.TheVariants as request
use Rattle.iris_script.specs.Cuts.{lines_of}
use Rattle.iris_script.specs.Paths.{IsPathWord}
use Rattle.iris_script.specs.Words.{IsBytesWord, IsNumber, words_of}
use Rattle.iris_script.specs.declared.script.ScriptError.{ScriptError}
use Rattle.iris_script.specs.declared.script.ScriptError.TheVariants.{NotRequest, Client, NoMemory}

-- the words after the client's number ask this
abbrev pub Asks : List (List ℕ) → Request → Type 0
Asks words (request.Mkdir path) = (p : List ℕ) × (words ≡ codes "mkdir" ∷ p ∷ []) × IsPathWord p path
Asks words (request.Create path) = (p : List ℕ) × (words ≡ codes "create" ∷ p ∷ []) × IsPathWord p path
Asks words (request.Write path offset bytes) =
    (p : List ℕ) × (n : List ℕ) × (d : List ℕ) × (words ≡ codes "write" ∷ p ∷ n ∷ d ∷ []) × IsPathWord p path × IsNumber n offset × IsBytesWord d bytes
Asks words (request.Read path offset len) =
    (p : List ℕ) × (n : List ℕ) × (m : List ℕ) × (words ≡ codes "read" ∷ p ∷ n ∷ m ∷ []) × IsPathWord p path × IsNumber n offset × IsNumber m len
Asks words (request.Resize path len) = (p : List ℕ) × (n : List ℕ) × (words ≡ codes "resize" ∷ p ∷ n ∷ []) × IsPathWord p path × IsNumber n len
Asks words (request.Stat path) = (p : List ℕ) × (words ≡ codes "stat" ∷ p ∷ []) × IsPathWord p path
Asks words (request.List path after) =
    ((p : List ℕ) × (words ≡ codes "list" ∷ p ∷ []) × IsPathWord p path × (after ≡ []))
    ⊎ ((p : List ℕ) × (q : List ℕ) × (words ≡ codes "list" ∷ p ∷ q ∷ []) × IsPathWord p path × IsPathWord q after)
Asks words (request.Rename from to) = (p : List ℕ) × (q : List ℕ) × (words ≡ codes "rename" ∷ p ∷ q ∷ []) × IsPathWord p from × IsPathWord q to
Asks words (request.Remove path) = (p : List ℕ) × (words ≡ codes "remove" ∷ p ∷ []) × IsPathWord p path
Asks words request.Sync = words ≡ codes "sync" ∷ []
Asks words request.Root = words ≡ codes "root" ∷ []
Asks words request.Reclaim = words ≡ codes "reclaim" ∷ []
Asks words (request.Probe at) = ⊥

-- the words ask nothing
abbrev pub AskNothing : List (List ℕ) → Type 0
AskNothing words = (request : Request) → Asks words request → ⊥

-- the words are a client's number, at least 1, and the words of a request
pub record WordsAsk (words : List (List ℕ)) (client : ℕ) (request : Request) : Type 0 where
  pub word : List ℕ
  pub rest : List (List ℕ)
  pub whole : words ≡ word ∷ rest
  pub number : IsNumber word client
  pub some : 1 ≤ client
  pub asks : Asks rest request

-- the client asks this by the line, with one blank between two words
abbrev pub LineAsks : List ℕ → ℕ → Request → Type 0
LineAsks line client request = WordsAsk (words_of line) client request

-- no client asks anything by the line
abbrev pub LineAsksNothing : List ℕ → Type 0
LineAsksNothing line = (client : ℕ) (request : Request) → LineAsks line client request → ⊥

-- a line without bytes, or one that begins with `#`
abbrev pub IsSkipped : List ℕ → Type 0
IsSkipped line = (line ≡ []) ⊎ ((more : List ℕ) × (line ≡ codes "#" ++ more))

-- the line is this call, by a client up to 16
abbrev pub IsCallLine : List ℕ → ℕ × Request → Type 0
IsCallLine line call = LineAsks line call.0 call.1 × (call.0 ≤ 16)

-- the line isn't skipped and asks nothing, whichever client is named
abbrev pub IsNoRequest : List ℕ → Type 0
IsNoRequest line = (IsSkipped line → ⊥) × LineAsksNothing line

-- the line asks something for a client above 16
abbrev pub NamesFarClient : List ℕ → Type 0
NamesFarClient line = (client : ℕ) × (request : Request) × LineAsks line client request × (16 < client)

-- the lines of a script, one carriage return dropped at the end of each
abbrev pub script_lines : List ℕ → List (List ℕ)
script_lines script = map strip_carriage_return (lines_of script)

-- the lines that aren't skipped are these calls, one for one
abbrev pub AllAsk : List (List ℕ) → List (ℕ × Request) → Type 0
AllAsk [] calls = calls ≡ []
AllAsk (line ∷ lines) calls =
    (IsSkipped line × AllAsk lines calls)
    ⊎ ((call : ℕ × Request) × (more : List (ℕ × Request)) × (calls ≡ call ∷ more) × IsCallLine line call × AllAsk lines more)

-- the n-th line, counted from 1, is bad, and each before it is skipped or a call
pub record IsFirst (IsBad : List ℕ → Type 0) (lines : List (List ℕ)) (n : ℕ) : Type 0 where
  pub before : List (List ℕ)
  pub line : List ℕ
  pub after : List (List ℕ)
  pub calls : List (ℕ × Request)
  pub whole : lines ≡ before ++ line ∷ after
  pub place : n ≡ length before + 1
  pub fine : AllAsk before calls
  pub bad : IsBad line

-- why a script isn't read: its first line that is no request or names a client above 16, or want of memory
abbrev pub IsScriptFault : List (List ℕ) → ScriptError → Type 0
IsScriptFault lines (NotRequest n) = IsFirst IsNoRequest lines n
IsScriptFault lines (Client n) = IsFirst NamesFarClient lines n
IsScriptFault lines NoMemory = Unit {0}

-- all of these calls are served
abbrev pub AreServed : (Request → Bool) → List (ℕ × Request) → Type 0
AreServed serves calls = All (λ call. serves call.1 ≡ true) calls

-- the line asks something that isn't served, whichever client is named
abbrev pub AsksUnserved : (Request → Bool) → List ℕ → Type 0
AsksUnserved serves line = (client : ℕ) × (request : Request) × LineAsks line client request × (serves request ≡ false)

-- the line asks nothing that is served
abbrev pub IsRefused : (Request → Bool) → List ℕ → Type 0
IsRefused serves line = IsNoRequest line ⊎ AsksUnserved serves line

-- the n-th line, counted from 1, is bad, and each before it is skipped or a call that is served
pub record IsFirstServed (serves : Request → Bool) (IsBad : List ℕ → Type 0) (lines : List (List ℕ)) (n : ℕ) : Type 0 where
  pub first : IsFirst IsBad lines n
  pub served : AreServed serves first.calls

-- why the line of this number isn't read where not every request is served, or want of memory
abbrev pub IsFaultOf : (Request → Bool) → List ℕ → ℕ → ScriptError → Type 0
IsFaultOf serves line number (NotRequest n) = (n ≡ number) × IsRefused serves line
IsFaultOf serves line number (Client n) = (n ≡ number) × NamesFarClient line
IsFaultOf serves line number NoMemory = Unit {0}

-- why a script isn't read where not every request is served: its first line that asks nothing served or names a client above 16
abbrev pub IsServiceFault : (Request → Bool) → List (List ℕ) → ScriptError → Type 0
IsServiceFault serves lines (NotRequest n) = IsFirstServed serves (IsRefused serves) lines n
IsServiceFault serves lines (Client n) = IsFirstServed serves NamesFarClient lines n
IsServiceFault serves lines NoMemory = Unit {0}
