-- Lines that were written are read back.
use Rattle.std.proofs.Common.{◌≡◌, ℕ, ◌+◌, ◌-◌, ◌<◌, ◌≤◌, ◌^◌, ◌/◌, ◌%◌, Bool, true, false, List, [], ◌∷◌, ◌++◌, length, take, drop}
use Rattle.std.proofs.Common.{Option, Some, None, refl, sym, ap, ◌∙◌, append_assoc, append-nil, length-append, arith, codes, decimal, unwrap_or}
use Rattle.std.specs.Prelude.{◌==◌, nat_lt, ◌||◌, if◌then◌else◌}
use Rattle.std.specs.List.{flat_map, prefix_len}
use Rattle.std.specs.Char.{is_ascii_digit}
use Rattle.std.specs.Option.{option_map}
use Rattle.std.proofs.Math.Seq.{take-append_seam, drop-append_seam}
use Rattle.std.proofs.lemmas.Bool.{cond_both}
use Rattle.std.proofs.lemmas.Bool.Decides.{nat_tests}
use Rattle.std.proofs.lemmas.Slice.Eq.{bytes_eq-Decides}
use Rattle.ifs_base.specs.Numbers.{number_of, sized}
use Rattle.ifs_base.specs.Words.{quoted, quoted_byte}
use Rattle.ifs_base.specs.declared.numbers.Number.TheVariants.{Within}
use Rattle.ifs_base.proofs.Decimals.{number_decimal, digits_at_front}
use Rattle.ifs_image.specs.declared.parts.ImageParts.{ImageParts}
use Rattle.ifs_sched.specs.Schedule.{running_count}
use Rattle.ifs_core.specs.declared.step.Answer.{Answer}
use Rattle.ifs_core.specs.declared.step.Answer.TheVariants as answers
use Rattle.ifs_core.specs.declared.step.Record.{Record}
use Rattle.ifs_core.specs.declared.step.Reply.{Reply}
use Rattle.ifs_core.specs.declared.step.Reply.TheVariants.{Done, Same, Ticked, Taken, Empty, Busy, Stale, Backwards, NoSuch}
use Rattle.ifs_core.specs.declared.step.Step.{Step}
use Rattle.ifs_core.specs.Steps.{CoreState}
use Rattle.ifs_session.specs.declared.request.RequestFault.{RequestFault}
use Rattle.ifs_session.specs.declared.request.RequestFault.TheVariants.{NoRequest, TooLong, OutOfRange, NoInterface}
use Rattle.ifs_session.specs.Requests.{starts_with}
use Rattle.ifs_session.specs.Replies.{state_name, yes_or_no, answer_word, step_words, record_words, status_words, reply_line, fault_line}
use Rattle.ifs_session.specs.Readings.{IsStepInRange, IsRecordInRange, IsStatusInRange, says_not_done, is_not_done, NotDoneIsSaid}
use Rattle.ifs_session.specs.inner.Words.{begins_with, behind, answer_in, Reads, behind_byte}

-- ---- words

-- A text begins with the word that it was made with.
pub starts_itself : (word rest : List ℕ) → starts_with word (word ++ rest) ≡ true
starts_itself word rest = (bytes_eq-Decides (take (length word) (word ++ rest)) word).1 (take-append_seam word rest)

-- Behind that word its rest is left.
pub behind_itself : (word rest : List ℕ) → behind word (Some (word ++ rest)) ≡ Some rest
behind_itself word rest = rw (starts_itself word rest) (ap Some (drop-append_seam word rest))

pub behind_read : (word rest : List ℕ) (old new : Option (List ℕ)) → new ≡ behind word old → old ≡ Some (word ++ rest) → new ≡ Some rest
behind_read word rest old new is e = is ∙ ap (behind word) e ∙ behind_itself word rest

answer_is : (answer : Answer) (rest : List ℕ) → answer_in (Some (answer_word answer ++ rest)) ≡ answer
answer_is answers.Done rest = refl
answer_is answers.Same rest = refl
answer_is answers.Ticked rest = refl
answer_is answers.Taken rest = refl

pub answer_read : (found answer : Answer) (old new : Option (List ℕ)) (rest : List ℕ) → found ≡ answer_in old → new ≡ behind (answer_word found) old → old ≡ Some (answer_word answer ++ rest) → Reads found answer new rest
answer_read found answer old new rest is left e =
    let same : found ≡ answer = is ∙ ap answer_in e ∙ answer_is answer rest in
    record { is = same; leaves = behind_read (answer_word answer) rest old new (left ∙ ap (λ a. behind (answer_word a) old) same) e }

yes_is : (answer : Bool) (rest : List ℕ) → begins_with (codes "yes") (Some (yes_or_no answer ++ rest)) ≡ answer
yes_is true rest = refl
yes_is false rest = refl

pub yes_read : (found answer : Bool) (old new : Option (List ℕ)) (rest : List ℕ) → found ≡ begins_with (codes "yes") old → new ≡ behind (yes_or_no found) old → old ≡ Some (yes_or_no answer ++ rest) → Reads found answer new rest
yes_read found answer old new rest is left e =
    let same : found ≡ answer = is ∙ ap (begins_with (codes "yes")) e ∙ yes_is answer rest in
    record { is = same; leaves = behind_read (yes_or_no answer) rest old new (left ∙ ap (λ a. behind (yes_or_no a) old) same) e }

-- ---- numbers

inside : {X : Type 0} (x y : List X) → Some x ≡ Some y → x ≡ y
inside x y e = ap (λ o. unwrap_or o []) e

-- The digits at the front of a text that begins with a number are that number's, and its rest is behind them.
pub number_front : (n k : ℕ) (rest left digits others : List ℕ) → n < 2 ^ 64 → prefix_len is_ascii_digit rest ≡ 0 → Some left ≡ Some (decimal n ++ rest)
    → k ≡ prefix_len is_ascii_digit left → digits ≡ take k left → others ≡ drop k left → (number_of digits ≡ Some n) × (others ≡ rest)
number_front n k rest left digits others lt stops e count front back =
    let text = inside left (decimal n ++ rest) e in
    let len : k ≡ length (decimal n) = count ∙ ap (prefix_len is_ascii_digit) text ∙ digits_at_front n rest lt stops in
    let first : digits ≡ decimal n = front ∙ ap (λ j. take j left) len ∙ ap (take (length (decimal n))) text ∙ take-append_seam (decimal n) rest in
    let second : others ≡ rest = back ∙ ap (λ j. drop j left) len ∙ ap (drop (length (decimal n))) text ∙ drop-append_seam (decimal n) rest in
    (ap number_of first ∙ number_decimal n lt, second)

-- Digits that spell a number are read as one.
pub number_found : (n : ℕ) (digits : List ℕ) → n < 2 ^ 64 → number_of digits ≡ Some n → option_map sized (number_of digits) ≡ Some (Within n)
number_found n digits lt spelled =
    let within : nat_lt n (2 ^ 64) ≡ true = grind (arith, nat_tests) in
    ap (option_map sized) spelled ∙ rw within refl

-- ---- quoted texts

-- The text before the rest.
pub before_rest : (q rest left others : List ℕ) → Some left ≡ Some (q ++ rest) → others ≡ rest → take (length left - length others) left ≡ q
before_rest q rest left others e same =
    let text = inside left (q ++ rest) e in
    let len : length left - length others ≡ length q = ap (λ r. length left - length r) same ∙ ap (λ l. length l - length rest) text ∙ omega (arith, length-append q rest) in
    ap (λ k. take k left) len ∙ ap (take (length q)) text ∙ take-append_seam q rest

-- Behind a quoted byte is the rest.
pub behind_quoted_byte : (byte : ℕ) (rest : List ℕ) → behind_byte (quoted_byte byte ++ rest) ≡ Some rest
behind_quoted_byte byte rest =
    cond_both ((byte == 34) || (byte == 92)) _ _ (λ (q : List ℕ). behind_byte (q ++ rest) ≡ Some rest)
    (λ escaped. let kind : (byte == 120) ≡ false = grind (arith, nat_tests) in rw kind refl)
    (λ other. cond_both (nat_lt byte 32 || (byte == 127)) _ _ (λ (q : List ℕ). behind_byte (q ++ rest) ≡ Some rest)
    (λ control. refl)
    (λ plain.
    let quote : (byte == 34) ≡ false = grind (arith, nat_tests) in
    let backslash : (byte == 92) ≡ false = grind (arith, nat_tests) in
    rw (quote, backslash) refl))

-- The inside of a quoted text, its last quote, and the rest.
pub inside_and_rest : (text rest : List ℕ) → quoted text ++ rest ≡ 34 ∷ (flat_map quoted_byte text ++ (34 ∷ rest))
inside_and_rest text rest = ap (λ t. 34 ∷ t) (append_assoc (flat_map quoted_byte text) (34 ∷ []) rest)

-- What is left of the inside of a quoted text after one byte more.
pub inside_goes_on : (text rest left others : List ℕ) → left ≡ flat_map quoted_byte text ++ (34 ∷ rest) → Some others ≡ behind_byte left
    → (more : List ℕ) × (others ≡ flat_map quoted_byte more ++ (34 ∷ rest))
inside_goes_on [] rest left others is next = let none : Some others ≡ None = next ∙ ap behind_byte is in absurd cc
inside_goes_on (byte ∷ more) rest left others is next = (
  more,
  inside others (flat_map quoted_byte more ++ (34 ∷ rest))
      (next ∙ ap behind_byte (is ∙ append_assoc (quoted_byte byte) (flat_map quoted_byte more) (34 ∷ rest)) ∙ behind_quoted_byte byte (flat_map quoted_byte more ++ (34 ∷ rest))),
)

-- At the end of the inside only the last quote comes before the rest.
pub inside_ends : (text rest left : List ℕ) → left ≡ flat_map quoted_byte text ++ (34 ∷ rest) → None ≡ behind_byte left → left ≡ 34 ∷ rest
inside_ends [] rest left is none = is
inside_ends (byte ∷ more) rest left is none =
    let some : None ≡ Some (flat_map quoted_byte more ++ (34 ∷ rest)) =
    none ∙ ap behind_byte (is ∙ append_assoc (quoted_byte byte) (flat_map quoted_byte more) (34 ∷ rest)) ∙ behind_quoted_byte byte (flat_map quoted_byte more ++ (34 ∷ rest)) in
    absurd cc

-- ---- lines

join_record : (s a q c k w x y z : List ℕ) → (s ++ w) ++ ((((((a ++ x) ++ q) ++ y) ++ c) ++ z) ++ k) ≡ s ++ (w ++ (a ++ (x ++ (q ++ (y ++ (c ++ (z ++ k)))))))
join_record s a q c k w x y z = simp append_assoc refl

-- What is read of the parts of a line of a trace, with what is left behind each of them.
pub record_read : (image : ImageParts) (r : Record) (line state : List ℕ) (all behind_step behind_arrow behind_answer behind_blank behind_state behind_cost_word behind_cost behind_queue_word end : Option (List ℕ))
    (step : Step) (answer : Answer) (cost queued : ℕ)
    → IsRecordInRange r → line ≡ record_words image r → all ≡ Some line
    → ((s : Step) (rest : List ℕ) → IsStepInRange s → prefix_len is_ascii_digit rest ≡ 0 → all ≡ Some (step_words s ++ rest) → Reads step s behind_step rest)
    → behind_arrow ≡ behind (codes " -> ") behind_step
    → answer ≡ answer_in behind_arrow → behind_answer ≡ behind (answer_word answer) behind_arrow
    → behind_blank ≡ behind (codes " ") behind_answer
    → ((text rest : List ℕ) → behind_blank ≡ Some (quoted text ++ rest) → Reads state (quoted text) behind_state rest)
    → behind_cost_word ≡ behind (codes " cost ") behind_state
    → ((n : ℕ) (rest : List ℕ) → n ≤ 4294967295 → prefix_len is_ascii_digit rest ≡ 0 → behind_cost_word ≡ Some (decimal n ++ rest) → Reads cost n behind_cost rest)
    → behind_queue_word ≡ behind (codes " queue ") behind_cost
    → ((n : ℕ) (rest : List ℕ) → n ≤ 65535 → prefix_len is_ascii_digit rest ≡ 0 → behind_queue_word ≡ Some (decimal n ++ rest) → Reads queued n end rest)
    → (step ≡ r.step) × (answer ≡ r.answer) × (state ≡ quoted (state_name image r.state.0)) × (cost ≡ r.cost) × (queued ≡ r.queued) × (end ≡ Some [])
record_read image r line state o0 o1 o2 o3 o4 o5 o6 o7 o8 o9 step answer cost queued range e all steps arrow said left blank states costs_after costs queues_after queues =
    let last : List ℕ = codes " queue " ++ decimal r.queued in
    let others : List ℕ = codes " -> " ++ (answer_word r.answer ++ (codes " " ++ (quoted (state_name image r.state.0) ++ (codes " cost " ++ (decimal r.cost ++ last))))) in
    let text : line ≡ step_words r.step ++ others =
    e ∙ join_record (step_words r.step) (answer_word r.answer) (quoted (state_name image r.state.0)) (decimal r.cost) (decimal r.queued) (codes " -> ") (codes " ") (codes " cost ") (codes " queue ") in
    let s1 = steps r.step others range.step refl (all ∙ ap Some text) in
    let s2 = answer_read answer r.answer o2 o3 _ said left (behind_read (codes " -> ") _ o1 o2 arrow s1.leaves) in
    let s3 = states (state_name image r.state.0) _ (behind_read (codes " ") _ o3 o4 blank s2.leaves) in
    let s4 = costs r.cost last (omega (arith, range.cost)) refl (behind_read (codes " cost ") _ o5 o6 costs_after s3.leaves) in
    let s5 = queues r.queued [] (omega (arith, range.queued)) refl (behind_read (codes " queue ") _ o7 o8 queues_after s4.leaves ∙ ap Some (sym (append-nil (decimal r.queued)))) in
    (s1.is, s2.is, s3.is, s4.is, s5.is, s5.leaves)

join_status : (s q o y u d r e n f : List ℕ) → (((s ++ q) ++ o) ++ y) ++ (((((u ++ d) ++ r) ++ e) ++ n) ++ f) ≡ s ++ (q ++ (o ++ (y ++ (u ++ (d ++ (r ++ (e ++ (n ++ f))))))))
join_status s q o y u d r e n f = simp append_assoc refl

-- What is read of the parts of a status line, with what is left behind each of them.
pub status_read : (image : ImageParts) (s : CoreState) (line state : List ℕ) (all behind_status behind_state behind_owed_word behind_owed behind_queue_word behind_queue behind_running_word behind_running behind_now_word end : Option (List ℕ))
    (owed : Bool) (queue running now : ℕ)
    → IsStatusInRange s → line ≡ status_words image s → all ≡ Some line
    → behind_status ≡ behind (codes "status ") all
    → ((text rest : List ℕ) → behind_status ≡ Some (quoted text ++ rest) → Reads state (quoted text) behind_state rest)
    → behind_owed_word ≡ behind (codes " owed ") behind_state
    → owed ≡ begins_with (codes "yes") behind_owed_word → behind_owed ≡ behind (yes_or_no owed) behind_owed_word
    → behind_queue_word ≡ behind (codes " queue ") behind_owed
    → ((n : ℕ) (rest : List ℕ) → n ≤ 18446744073709551615 → prefix_len is_ascii_digit rest ≡ 0 → behind_queue_word ≡ Some (decimal n ++ rest) → Reads queue n behind_queue rest)
    → behind_running_word ≡ behind (codes " running ") behind_queue
    → ((n : ℕ) (rest : List ℕ) → n ≤ 18446744073709551615 → prefix_len is_ascii_digit rest ≡ 0 → behind_running_word ≡ Some (decimal n ++ rest) → Reads running n behind_running rest)
    → behind_now_word ≡ behind (codes " now ") behind_running
    → ((n : ℕ) (rest : List ℕ) → n ≤ 18446744073709551615 → prefix_len is_ascii_digit rest ≡ 0 → behind_now_word ≡ Some (decimal n ++ rest) → Reads now n end rest)
    → (state ≡ quoted (state_name image s.position.current.0)) × (owed ≡ s.position.owed) × (queue ≡ length s.queue) × (running ≡ running_count s.position.schedule) × (now ≡ s.position.schedule.present) × (end ≡ Some [])
status_read image s line state o0 o1 o2 o3 o4 o5 o6 o7 o8 o9 o10 owed queue running now range e all word states owed_after said left queue_after queues running_after runnings now_after nows =
    let last : List ℕ = codes " now " ++ decimal s.position.schedule.present in
    let others : List ℕ = codes " running " ++ (decimal (running_count s.position.schedule) ++ last) in
    let text : line ≡ codes "status " ++ (quoted (state_name image s.position.current.0) ++ (codes " owed " ++ (yes_or_no s.position.owed ++ (codes " queue " ++ (decimal (length s.queue) ++ others))))) =
    e ∙ join_status (codes "status ") (quoted (state_name image s.position.current.0)) (codes " owed ") (yes_or_no s.position.owed) (codes " queue ") (decimal (length s.queue)) (codes " running ") (decimal (running_count s.position.schedule)) (codes " now ") (decimal s.position.schedule.present) in
    let s1 = states (state_name image s.position.current.0) _ (behind_read (codes "status ") _ o0 o1 word (all ∙ ap Some text)) in
    let s2 = yes_read owed s.position.owed o3 o4 _ said left (behind_read (codes " owed ") _ o2 o3 owed_after s1.leaves) in
    let s3 = queues (length s.queue) others (omega (arith, range.queue)) refl (behind_read (codes " queue ") _ o4 o5 queue_after s2.leaves) in
    let s4 = runnings (running_count s.position.schedule) last (omega (arith, range.running)) refl (behind_read (codes " running ") _ o6 o7 running_after s3.leaves) in
    let s5 = nows s.position.schedule.present [] (omega (arith, range.present)) refl (behind_read (codes " now ") _ o8 o9 now_after s4.leaves ∙ ap Some (sym (append-nil (decimal s.position.schedule.present)))) in
    (s1.is, s2.is, s3.is, s4.is, s5.is, s5.leaves)

-- ---- replies to what was not done

not_done_steps : (image : ImageParts) (reply : Reply) → says_not_done (reply_line image reply) ≡ is_not_done reply
not_done_steps image (Done state queued cost) = refl
not_done_steps image Same = refl
not_done_steps image (Ticked evaluated state queued cost starts exhausted) = refl
not_done_steps image (Taken command) = refl
not_done_steps image Empty = refl
not_done_steps image Busy = refl
not_done_steps image Stale = refl
not_done_steps image Backwards = refl
not_done_steps image NoSuch = refl

not_done_faults : (fault : RequestFault) → says_not_done (fault_line fault) ≡ true
not_done_faults NoRequest = refl
not_done_faults TooLong = refl
not_done_faults OutOfRange = refl
not_done_faults NoInterface = refl

pub not_done_is_said : NotDoneIsSaid
not_done_is_said = record { steps = not_done_steps; faults = not_done_faults; refusals = λ words. refl }
