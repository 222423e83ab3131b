-- The position before the inits is one of its image.
use Rattle.std.proofs.Common.{◌≡◌, ℕ, Option, None, length, map, ◌∙◌}
use Rattle.std.specs.Prelude.{Bool}
use Rattle.std.proofs.lemmas.List.{length-map}
use Rattle.ifs_image.specs.declared.parts.ImageParts.{ImageParts}
use Rattle.ifs_sched.specs.Timer.{inactive}
use Rattle.ifs_sched.specs.Schedule.{all_off}
use Rattle.ifs_core.specs.Machine.{periods_in}

pub length-periods_in : (image : ImageParts) → length (periods_in image) ≡ length image.tests
length-periods_in image = length-map image.tests (λ test. test.period)

pub length-no_values : (image : ImageParts) → length (map {A = ℕ} {B = Option Bool} (λ _. None) (periods_in image)) ≡ length image.tests
length-no_values image = length-map (periods_in image) (λ _. None) ∙ length-periods_in image

pub length-all_off : (image : ImageParts) (run : ℕ) → length (all_off (periods_in image) run).tests ≡ length image.tests
unfolding all_off
length-all_off image run = length-map (periods_in image) inactive ∙ length-periods_in image
