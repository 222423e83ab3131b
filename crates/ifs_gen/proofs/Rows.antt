-- The rows of the machine's table for the instructions of plain code, and sequences of rows.
use Rattle.std.proofs.Common.{◌≡◌, ℕ, zero, suc, ◌+◌, ◌<◌, ◌≤◌, Bool, cond, List, [], ◌∷◌, ◌++◌, length, Option}
use Rattle.std.proofs.Common.{Some, None, refl, sym, ap, ◌∙◌, subst, arith, append_assoc, length-append}
use Rattle.std.specs.Prelude.{nat_le, slice_get}
use Rattle.std.proofs.lemmas.Bool.{le-leb}
use Rattle.std.proofs.lemmas.List.{append-nil}
use Rattle.ifs_base.specs.Facts.{Facts}
use Rattle.ifs_base.specs.Effects.{Effects, nothing_yet, followed, later_wish}
use Rattle.ifs_base.specs.declared.ids.CommandId.{CommandId}
use Rattle.ifs_base.specs.declared.ids.StateId.{StateId}
use Rattle.ifs_base.specs.declared.op.Op.{Op}
use Rattle.ifs_base.specs.declared.op.Op.TheVariants.{PushCommand, PushState, Queue, Want, JumpFalse}
use Rattle.ifs_image.specs.declared.parts.ImageParts.{ImageParts}
use Rattle.ifs_image.specs.Code.{op_at}
use Rattle.ifs_machine.specs.declared.value.Value.{Value}
use Rattle.ifs_machine.specs.declared.value.Value.TheVariants.{Truth, Command, StateName}
use Rattle.ifs_machine.specs.Table.{Frame, Trap, StackFull, CommandsPassed, Outcome, unless, height, row, row_of}
use Rattle.ifs_machine.specs.Run.{next, after_rows}
use Rattle.ifs_gen.specs.Runs.{HasAt, Point, point, at_point, RowsLead, HasStack}

-- An index below the length of a table has an entry.
pub entry_at : {T : Type 0} (xs : List T) (i : ℕ) → i < length xs → (x : T) × (slice_get xs i ≡ Some x)
entry_at [] i lt = absurd (omega arith)
entry_at (x ∷ xs) zero lt = (x, refl)
entry_at (x ∷ xs) (suc i) lt = entry_at xs i (omega arith)

pub unless_fits : (a b : ℕ) (trap : Trap) (o : Outcome) → a ≤ b → unless (nat_le a b) trap o ≡ o
unless_fits a b trap o le = rw (le-leb a b le) refl

-- Two lists of instructions in sequence.
pub has_left : (code : List Op) (place : ℕ) (xs ys : List Op) → HasAt code place (xs ++ ys) → HasAt code place xs
has_left code place [] ys h = tt
has_left code place (x ∷ xs) ys h = (h.0, has_left code (place + 1) xs ys h.1)

pub has_right : (code : List Op) (place : ℕ) (xs ys : List Op) (from : ℕ) → place + length xs ≡ from → HasAt code place (xs ++ ys) → HasAt code from ys
has_right code place [] ys from e h = let same : place ≡ from = omega (arith, e) in subst (λ p. HasAt code p ys) same h
has_right code place (x ∷ xs) ys from e h = has_right code (place + 1) xs ys from (omega (arith, e)) h.1

pub at_front : (front : List Op) (op : Op) (ops : List Op) → slice_get (front ++ op ∷ ops) (length front) ≡ Some op
at_front [] op ops = refl
at_front (x ∷ front) op ops = at_front front op ops

pub has_all : (front ops : List Op) → HasAt (front ++ ops) (length front) ops
has_all front [] = tt
has_all front (op ∷ ops) =
    let long = length-append front (op ∷ []) in
    (at_front front op ops, subst (λ p. HasAt (front ++ op ∷ ops) p ops) long (subst (λ c. HasAt c (length (front ++ op ∷ [])) ops) (append_assoc front (op ∷ []) ops) (has_all (front ++ op ∷ []) ops)))

-- The effects of three events.
later_wish_assoc : (a b c : Option StateId) → later_wish (later_wish a b) c ≡ later_wish a (later_wish b c)
later_wish_assoc a b None = refl
later_wish_assoc a b (Some next) = refl

pub effects_are : (a b : List CommandId) (v w : Option StateId) → a ≡ b → v ≡ w → (let x : Effects = record { commands = a; wish = v } in let y : Effects = record { commands = b; wish = w } in x ≡ y)
effects_are a b v w e f =
    ap (λ commands. let made : Effects = record { commands = commands; wish = v } in made) e ∙ ap (λ wish. let made : Effects = record { commands = b; wish = wish } in made) f

pub followed_assoc : (a b c : Effects) → followed (followed a b) c ≡ followed a (followed b c)
followed_assoc a b c = effects_are _ _ _ _ (append_assoc a.commands b.commands c.commands) (later_wish_assoc a.wish b.wish c.wish)

pub followed_nothing : (a : Effects) → followed a nothing_yet ≡ a
followed_nothing a = effects_are _ _ _ _ (append-nil a.commands) refl

module _ (image : ImageParts) (facts : Facts) where
  pub after_add : (m n : ℕ) (start : Outcome) → after_rows image facts (n + m) start ≡ after_rows image facts m (after_rows image facts n start)
  after_add zero n start = let e : n + zero ≡ n = omega arith in ap (λ k. after_rows image facts k start) e
  after_add (suc m) n start = let e : n + suc m ≡ suc (n + m) = omega arith in ap (λ k. after_rows image facts k start) e ∙ ap (next image facts) (after_add m n start)

  module _ (routine : ℕ) (callers : List Frame) where
    pub no_rows : (from : Point) → RowsLead image facts routine callers from 0 from
    no_rows from = record { runs = refl }

    pub then_leads : (a b c : Point) (m n : ℕ) → RowsLead image facts routine callers a m b → RowsLead image facts routine callers b n c → RowsLead image facts routine callers a (m + n) c
    then_leads a b c m n first second = record { runs = after_add n m (at_point routine callers a) ∙ ap (after_rows image facts n) first.runs ∙ second.runs }

    -- The same run with equal numbers.
    pub as_told : (a b c : Point) (m n : ℕ) → RowsLead image facts routine callers a m b → m ≡ n → b ≡ c → RowsLead image facts routine callers a n c
    as_told a b c m n leads e f = subst (λ k. RowsLead image facts routine callers a k c) e (subst (λ p. RowsLead image facts routine callers a m p) f leads)

    pub at_place : (a : Point) (m n p q : ℕ) (values : List Value) (effects : Effects) → RowsLead image facts routine callers a m (point p values effects) → m ≡ n → p ≡ q
        → RowsLead image facts routine callers a n (point q values effects)
    at_place a m n p q values effects leads e f = as_told a (point p values effects) (point q values effects) m n leads e (ap (λ k. point k values effects) f)

    -- One row.
    pub one_row : (a b : Point) (op : Op) → op_at image routine a.place ≡ Some op
        → row image facts (record { frame = record { routine = routine; place = a.place; values = a.values }; callers = callers; effects = a.effects }) op ≡ at_point routine callers b
        → RowsLead image facts routine callers a 1 b
    one_row a b op here is =
        record { runs = ap (row_of image facts (record { frame = record { routine = routine; place = a.place; values = a.values }; callers = callers; effects = a.effects })) here ∙ is }

    module _ (place : ℕ) (values : List Value) (effects : Effects) where
      -- A row that pushes a value.
      pushed_row : (op : Op) (value : Value) → op_at image routine place ≡ Some op → HasStack image callers values 1
          → row image facts (record { frame = record { routine = routine; place = place; values = values }; callers = callers; effects = effects }) op
          ≡ unless (nat_le (length (value ∷ values) + height callers) image.budgets.stack) StackFull (at_point routine callers (point (place + 1) (value ∷ values) effects))
          → RowsLead image facts routine callers (point place values effects) 1 (point (place + 1) (value ∷ values) effects)
      pushed_row op value here room is =
          one_row (point place values effects) (point (place + 1) (value ∷ values) effects) op here (is ∙ unless_fits (length (value ∷ values) + height callers) image.budgets.stack StackFull _ (omega (arith, room)))

      pub command_row : (n : CommandId) → op_at image routine place ≡ Some (PushCommand n) → n.0 < length image.commands → HasStack image callers values 1
          → RowsLead image facts routine callers (point place values effects) 1 (point (place + 1) (Command n ∷ values) effects)
      command_row n here known room =
          let there = entry_at image.commands n.0 known in
          pushed_row (PushCommand n) (Command n) here room (rw there.1 refl)

      pub state_row : (n : StateId) → op_at image routine place ≡ Some (PushState n) → n.0 < length image.states → HasStack image callers values 1
          → RowsLead image facts routine callers (point place values effects) 1 (point (place + 1) (StateName n ∷ values) effects)
      state_row n here known room =
          let there = entry_at image.states n.0 known in
          pushed_row (PushState n) (StateName n) here room (rw there.1 refl)

      pub queue_row : (n : CommandId) → op_at image routine place ≡ Some Queue → length effects.commands + 1 ≤ image.budgets.commands
          → RowsLead image facts routine callers (point place (Command n ∷ values) effects) 1 (point (place + 1) values (followed effects (record { commands = n ∷ []; wish = None })))
      queue_row n here room =
          one_row (point place (Command n ∷ values) effects) (point (place + 1) values (followed effects (record { commands = n ∷ []; wish = None }))) Queue here
          (unless_fits (length effects.commands + 1) image.budgets.commands CommandsPassed _ room)

      pub want_row : (n : StateId) → op_at image routine place ≡ Some Want
          → RowsLead image facts routine callers (point place (StateName n ∷ values) effects) 1 (point (place + 1) values (followed effects (record { commands = []; wish = Some n })))
      want_row n here =
          as_told (point place (StateName n ∷ values) effects) (point (place + 1) values (record { commands = effects.commands; wish = Some n }))
          (point (place + 1) values (followed effects (record { commands = []; wish = Some n }))) 1 1
          (one_row (point place (StateName n ∷ values) effects) (point (place + 1) values (record { commands = effects.commands; wish = Some n })) Want here refl)
          refl (ap (λ e. point (place + 1) values e) (effects_are _ _ _ _ (sym (append-nil effects.commands)) refl))

      pub jump_row : (b : Bool) (target : ℕ) → op_at image routine place ≡ Some (JumpFalse target)
          → RowsLead image facts routine callers (point place (Truth b ∷ values) effects) 1 (point (cond b (place + 1) target) values effects)
      jump_row b target here = one_row (point place (Truth b ∷ values) effects) (point (cond b (place + 1) target) values effects) (JumpFalse target) here refl
