-- The checks of a request in their order, over what resolving meets.
use Rattle.std.specs.Prelude.{ℕ, ◌+◌, ◌/◌, ◌^◌, ◌==◌, ◌&&◌, List, length, Bool, true, false, Option, Some, None, if◌then◌else◌, nat_lt, nat_le}
use Rattle.iris_name.specs.declared.request.PlainError.{PlainError}
use Rattle.iris_name.specs.declared.request.PlainError.TheVariants.{NotFound, Exists, NotDir, IsDir, BadPath, TooLong, TooMuch, IntoSelf, Full}
use Rattle.iris_name.specs.declared.request.Request.{Request}
use Rattle.iris_name.specs.declared.request.Request.TheVariants.{Mkdir, Create, Write, Read, Resize, Stat, List as ListNames, Rename, Remove, Sync, Root, Reclaim, Probe}
use Rattle.iris_name.specs.Paths.{names_of}
use Rattle.iris_plain.specs.Routes.{parent, is_top, is_front}
use Rattle.iris_plain.specs.declared.checks.Seen.{Seen}
use Rattle.iris_plain.specs.declared.checks.Seen.TheVariants.{ADirectory, AFile, Nothing, AFileBefore}

-- the number of blocks of a length
abbrev pub blocks_of : ℕ → ℕ
blocks_of size = (size + 4095) / 4096

-- no change is taken at this age
abbrev pub is_full : ℕ → Bool
is_full age = nat_le (2 ^ 40) age

-- why a path can't be resolved
abbrev pub unresolved : Seen → Option PlainError
unresolved ADirectory = None
unresolved (AFile size) = None
unresolved Nothing = Some NotFound
unresolved AFileBefore = Some NotDir

-- a file is there
abbrev pub is_file : Seen → Bool
is_file ADirectory = false
is_file (AFile size) = true
is_file Nothing = false
is_file AFileBefore = false

-- a directory is there
abbrev pub is_directory_seen : Seen → Bool
is_directory_seen ADirectory = true
is_directory_seen (AFile size) = false
is_directory_seen Nothing = false
is_directory_seen AFileBefore = false

-- something is there
abbrev pub is_there : Seen → Bool
is_there ADirectory = true
is_there (AFile size) = true
is_there Nothing = false
is_there AFileBefore = false

-- the length of the file, 0 where none is there
abbrev pub size_of : Seen → ℕ
size_of ADirectory = 0
size_of (AFile size) = size
size_of Nothing = 0
size_of AFileBefore = 0

-- this error where the test holds
abbrev pub error_if : Bool → PlainError → Option PlainError
error_if b e = if b then Some e else None

-- the first of two errors
abbrev pub then_error : Option PlainError → Option PlainError → Option PlainError
then_error None other = other
then_error (Some e) other = Some e

-- the checks of a path's names, BadPath where there are none
abbrev pub on_names : Option (List (List ℕ)) → (List (List ℕ) → Option PlainError) → Option PlainError
on_names None checks = Some BadPath
on_names (Some names) checks = checks names

-- the checks of the names of a path text
abbrev pub on_path : List ℕ → (List (List ℕ) → Option PlainError) → Option PlainError
on_path text checks = on_names (names_of text) checks

-- a new name: not the root, in a directory, not there yet
abbrev pub new_name : Bool → Seen → Seen → Bool → Option PlainError
new_name top above here full =
    then_error (error_if top Exists) (then_error (unresolved above) (then_error (error_if (is_file above) NotDir) (then_error (error_if (is_there here) Exists) (error_if full Full))))

-- a write of so many bytes
abbrev pub write_checks : Seen → ℕ → ℕ → Bool → Option PlainError
write_checks here offset count full =
    then_error (error_if (nat_lt 262144 count) TooMuch) (then_error (unresolved here) (then_error (error_if (is_directory_seen here) IsDir)
    (if count == 0 then None else then_error (error_if (nat_lt 268435456 (offset + count)) TooLong) (error_if full Full))))

-- a read of so many bytes
abbrev pub read_checks : Seen → ℕ → Option PlainError
read_checks here count = then_error (error_if (nat_lt 262144 count) TooMuch) (then_error (unresolved here) (error_if (is_directory_seen here) IsDir))

-- a new length of a file
abbrev pub resize_checks : Seen → ℕ → Bool → Option PlainError
resize_checks here size full =
    then_error (unresolved here) (then_error (error_if (is_directory_seen here) IsDir) (then_error (error_if (nat_lt 268435456 size) TooLong)
    (if size == size_of here then None
    else then_error (error_if (nat_lt 0 size && nat_lt (blocks_of size + 64) (blocks_of (size_of here))) TooMuch) (error_if full Full))))

-- a move, whose own checks come before those of the new name
abbrev pub move_checks : Bool → Seen → Bool → Option PlainError → Option PlainError
move_checks top here ahead new =
    then_error (error_if top BadPath) (then_error (unresolved here) (then_error (error_if ahead IntoSelf) new))

-- a removal
abbrev pub remove_checks : Bool → Seen → Bool → Option PlainError
remove_checks top here full = then_error (error_if top BadPath) (then_error (unresolved here) (error_if full Full))

-- a new name at a path
abbrev pub no_place : (List (List ℕ) → Seen) → Bool → List (List ℕ) → Option PlainError
no_place met full names = new_name (is_top names) (met (parent names)) (met names) full

-- the first check that applies, none where the request is accepted
abbrev pub verdict : (List (List ℕ) → Seen) → Bool → Request → Option PlainError
verdict met full (Mkdir path) = on_path path (no_place met full)
verdict met full (Create path) = on_path path (no_place met full)
verdict met full (Write path offset bytes) = on_path path (λ names. write_checks (met names) offset (length bytes) full)
verdict met full (Read path offset count) = on_path path (λ names. read_checks (met names) count)
verdict met full (Resize path size) = on_path path (λ names. resize_checks (met names) size full)
verdict met full (Stat path) = on_path path (λ names. unresolved (met names))
verdict met full (ListNames path after) = on_path path (λ names. then_error (unresolved (met names)) (error_if (is_file (met names)) NotDir))
verdict met full (Rename from to) = on_path from (λ olds. on_path to (λ news. move_checks (is_top olds) (met olds) (is_front olds news) (no_place met full news)))
verdict met full (Remove path) = on_path path (λ names. remove_checks (is_top names) (met names) full)
verdict met full Sync = None
verdict met full Root = None
verdict met full Reclaim = None
verdict met full (Probe at) = None
