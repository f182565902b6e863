-- The version of the library: that of the file VERSION.
use Rattle.std.specs.Prelude.{ℕ, ◌+◌, ◌*◌}

abbrev pub major : ℕ
major = 0

abbrev pub minor : ℕ
minor = 27

abbrev pub patch : ℕ
patch = 0

-- as one number, which grows from version to version
abbrev pub version : ℕ
version = major * 10000 + minor * 100 + patch
