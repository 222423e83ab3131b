use Rattle.std.proofs.Common.{◌≡◌, ◌++◌, take, All}
use Rattle.std.specs.List.{flat_map}
use Rattle.ifs_image.specs.Spelling.{text_bytes}
use Rattle.std.specs.Prelude.{IsUtf8}
use Rattle.ifs_image.proofs.writing.put_texts.Given as goal

abbrev pub invariant-loop-text : goal.invariant-loop-text
invariant-loop-text l = record {
  bytes : l.out.items ≡ l.fn.out.items ++ flat_map text_bytes (take l.text-index l.texts);
  in_range : All IsUtf8 (take l.text-index l.texts);
}
