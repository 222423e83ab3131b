use Rattle.std.proofs.Common.{◌≡◌, ◌++◌, take, All}
use Rattle.std.specs.List.{flat_map}
use Rattle.ifs_image.specs.Spelling.{test_bytes}
use Rattle.std.specs.Prelude.{IsUtf8}
use Rattle.ifs_image.proofs.writing.put_tests.Given as goal

abbrev pub invariant-loop-test : goal.invariant-loop-test
invariant-loop-test l = record {
  bytes : l.out.items ≡ l.fn.out.items ++ flat_map test_bytes (take l.test-index l.tests);
  in_range : All (λ t. IsUtf8 t.text) (take l.test-index l.tests);
}
