-- Upgrade: the same image in version 2.
use Rattle.ifs_image.specs.declared.parts.ImageParts.{ImageParts}

-- An image in version 2, otherwise unchanged.
abbrev pub upgraded : ImageParts → ImageParts
upgraded image = record image { version = 2 }
