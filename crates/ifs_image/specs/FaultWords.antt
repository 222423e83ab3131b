-- The printed words of the faults of an image's bytes.
use Rattle.std.specs.Prelude.{ℕ, List, ◌++◌, codes, decimal}
use Rattle.ifs_image.specs.declared.fault.ImageFault.{ImageFault}
use Rattle.ifs_image.specs.declared.fault.ImageFault.TheVariants.{Truncated, WrongMagic, WrongVersion, OutOfLimit, BadText, RepeatedName, Trailing, NoInstruction, Memory}

-- A fault's code, and the offset of its field.
abbrev pub image_fault_words : ImageFault → List ℕ
image_fault_words (Truncated at) = codes "I1 byte " ++ decimal at
image_fault_words (WrongMagic at) = codes "I2 byte " ++ decimal at
image_fault_words (WrongVersion at) = codes "I3 byte " ++ decimal at
image_fault_words (OutOfLimit at) = codes "I4 byte " ++ decimal at
image_fault_words (BadText at) = codes "I5 byte " ++ decimal at
image_fault_words (RepeatedName at) = codes "I6 byte " ++ decimal at
image_fault_words (Trailing at) = codes "I7 byte " ++ decimal at
image_fault_words (NoInstruction at) = codes "I8 byte " ++ decimal at
image_fault_words Memory = codes "I0"
