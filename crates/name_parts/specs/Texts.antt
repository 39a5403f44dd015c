-- The text of a name that is held by place.
use Rattle.std.specs.Prelude.{ℕ, List}
use Rattle.name_parts.specs.declared.name_parts.NameParts.{NameParts}

-- the bytes of the name
abbrev pub text_of : NameParts → List ℕ
text_of parts = parts.text.now
