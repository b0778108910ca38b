-- Offsets that are sent.
use Rattle.std.proofs.Common.{◌≡◌, ℕ, zero, suc, ◌+◌, ◌-◌, ◌*◌, ◌^◌, ◌<◌, ◌≤◌, List, [], ◌∷◌, ◌++◌, length, get_or, get_or-take, get_or-drop, take, drop, sym, refl, ap, ap₂, ◌∙◌, subst, pow-suc, suc-mul, zero-mul, arith}
use Rattle.std.proofs.lemmas.List.{append-nil, append_assoc, length-append, length-drop, length-take, length-take-le, take_all, drop_all, drop-drop}
use native.Mathlib.Nat.{pow-le-pow_right}
use lib.Seq.{take-append_seam}
use borrow.Rule.Slice.PartMut.{put_mid, mid_of}
use native.Mathlib.Nat.{sub_self}
use Rattle.layout.specs.declared.fault.Refusal.TheVariants.{Place, Offset}
use Rattle.layout.specs.declared.node.Node.{Node}
use Rattle.layout.specs.declared.number.Width.{Width}
use Rattle.layout.specs.Messages.{offsets, offset_bytes}
use Rattle.layout.specs.Rows.{offset_at, count_at}
use Rattle.layout.specs.Rules.{HasOffsets, Rising, reach}
use Rattle.layout.proofs.Lists.{rows_same, length-rows}
use Rattle.laws.proofs.Lists.{rise}
use Rattle.laws.proofs.Places.{places}
use Rattle.laws.proofs.Round as round
use Rattle.laws.proofs.Sizes.{length-le_all}
use Rattle.laws.proofs.Says.{slot_rises}
use Rattle.recording.specs.declared.window.Window.{Window}
use Rattle.recording.specs.Contents.{AreOffsets}
use Rattle.recording.specs.NodeRefs.{table_of, run_of, numbers_of}
use Rattle.recording.specs.Passing.{AreContents}
use Rattle.recording.specs.Windows.{HasStrings}
use Rattle.recording.proofs.Contents.{offset_is}
use Rattle.recording.proofs.Reading.{rules_at}
use Rattle.dictionaries.proofs.ValidRows.{reach_is}
use Rattle.columns.specs.Buffers.{offsets_in}
use Rattle.layout.specs.Lists.{rows}
use Rattle.layout.specs.Numbers.{wide, unle, le, le_all}
use Rattle.layout.specs.Spelling.{length-le}
use Rattle.recording.specs.Contents.{offset_in}
use Rattle.columns.proofs.SentBits.{rows_more}

-- bytes spell a number that fits them
pub unle_small : (bs : List ℕ) → ((i : ℕ) → i < length bs → get_or bs i 0 < 256) → unle bs < 256 ^ length bs
unle_small [] h = omega arith
unle_small (b ∷ bs) h = omega (arith, h 0 (omega arith), unle_small bs (λ i l. h (suc i) (omega arith)), pow-suc 256 (length bs))

-- ---- numbers one after another

pub le_all-append : (w : ℕ) (xs ys : List ℕ) → le_all w (xs ++ ys) ≡ le_all w xs ++ le_all w ys
le_all-append w [] ys = refl
le_all-append w (x ∷ xs) ys = ap (λ (bs : List ℕ). le w x ++ bs) (le_all-append w xs ys) ∙ sym (append_assoc (le w x) (le_all w xs) (le_all w ys))

pub le_all_more : (w i : ℕ) (f : ℕ → ℕ) → le_all w (rows i f) ++ le w (f i) ≡ le_all w (rows (i + 1) f)
le_all_more w i f =
    ap (λ (bs : List ℕ). le_all w (rows i f) ++ bs) (sym (append-nil (le w (f i)))) ∙ sym (le_all-append w (rows i f) (f i ∷ [])) ∙ ap (le_all w) (rows_more i f)

-- ---- one more offset

module _ (w i : ℕ) (f : ℕ → ℕ) (out : List ℕ) (done : take (i * w) out ≡ le_all w (rows i f)) (l : i * w + w ≤ length out) where
  -- the bytes after those that are written, with one more number at their front
  pub one_written : (at k v x : ℕ) (new : List ℕ) → v ≡ w → at ≡ i * v → k ≡ length out - at → new ≡ le v x ++ drop v (mid_of at k out) → x ≡ f i
      → (length (put_mid at k out new) ≡ length out) × (take ((i + 1) * w) (put_mid at k out new) ≡ le_all w (rows (i + 1) f))
  one_written at k v x new same place size e h = (length-put, ap₂ take (sym long) whole ∙ take-append_seam (le_all w (rows i f) ++ le w (f i)) (drop (i * w + w) out) ∙ le_all_more w i f)
    where
      at_is : at ≡ i * w
      at_is = place ∙ ap (λ (v : ℕ). i * v) same

      front : take at out ≡ le_all w (rows i f)
      front = ap (λ (n : ℕ). take n out) at_is ∙ done

      left : length (drop at out) ≡ k
      left = length-drop at out ∙ sym size

      new_is : new ≡ le w (f i) ++ drop (i * w + w) out
      new_is =
          e
          ∙ ap₂ (λ (us vs : List ℕ). us ++ vs) (ap₂ le same h)
          (ap₂ (λ (v : ℕ) (ys : List ℕ). drop v ys) same (take_all k (drop at out) (omega (arith, left))) ∙ drop-drop w at out ∙ ap (λ (n : ℕ). drop n out) (omega (arith, at_is)))

      whole : put_mid at k out new ≡ (le_all w (rows i f) ++ le w (f i)) ++ drop (i * w + w) out
      whole =
          ap₂ (λ (us vs : List ℕ). us ++ vs) front (ap₂ (λ (us vs : List ℕ). us ++ vs) new_is (drop_all k (drop at out) (omega (arith, left))) ∙ append-nil (le w (f i) ++ drop (i * w + w) out))
          ∙ sym (append_assoc (le_all w (rows i f)) (le w (f i)) (drop (i * w + w) out))

      long : length (le_all w (rows i f) ++ le w (f i)) ≡ (i + 1) * w
      long =
          length-append (le_all w (rows i f)) (le w (f i))
          ∙ ap₂ (λ (x y : ℕ). x + y) (sym (ap length done) ∙ length-take-le (i * w) out (omega arith)) (length-le w (f i))
          ∙ omega (arith, suc-mul i w)

      length-put : length (put_mid at k out new) ≡ length out
      length-put =
          ap length whole ∙ length-append (le_all w (rows i f) ++ le w (f i)) (drop (i * w + w) out)
          ∙ ap₂ (λ (x y : ℕ). x + y) long (length-drop (i * w + w) out) ∙ omega (arith, suc-mul i w)

-- ---- offsets that are read

pub offset_small : (bs : List ℕ) (w i : ℕ) → ((k : ℕ) → get_or bs k 0 < 256) → offset_in bs w i < 256 ^ w
offset_small bs w i h =
    let part : List ℕ = take w (drop (i * w) bs) in
    let long : length part ≤ w = omega (arith, length-take w (drop (i * w) bs)) in
    omega (
      arith,
      unle_small part (λ k l. subst (λ (x : ℕ). x < 256) (sym (get_or-take w (drop (i * w) bs) k 0 (omega arith) ∙ get_or-drop (i * w) bs k 0)) (h (i * w + k))),
      pow-le-pow_right {n = 256} (omega arith) {i = length part} {j = w} long,
    )

pub offset_first : (bs : List ℕ) (v w x : ℕ) → v ≡ w → x ≡ unle (take v bs) → x ≡ offset_in bs w 0
offset_first bs v w x same e =
    let zero_times : 0 ≡ 0 * w = omega (arith, zero-mul w) in
    e ∙ ap₂ (λ (v k : ℕ). unle (take v (drop k bs))) same zero_times

pub offset_read : (bs : List ℕ) (v w i at k x : ℕ) → v ≡ w → at ≡ i * v → k ≡ length bs - at → x ≡ unle (take v (take k (drop at bs))) → x ≡ offset_in bs w i
offset_read bs v w i at k x same place size e =
    e
    ∙ ap (λ (ys : List ℕ). unle (take v ys)) (take_all k (drop at bs) (omega (arith, length-drop at bs)))
    ∙ ap₂ (λ (v n : ℕ). unle (take v (drop n bs))) same (place ∙ ap (λ (v : ℕ). i * v) same)

-- ---- the offsets of a window

module _ (v : Window) (bs : List ℕ) (w : Width) (has : HasOffsets (numbers_of v.node) w) (is : AreOffsets v bs) where
  abbrev n : Node
  n = numbers_of v.node

  abbrev x : ℕ
  x = wide w

  rising : Rising (run_of v.node) x n (reach has.0 (table_of v.node) v.node.index)
  rising = rules_at v.node Offset has.0 w has.1 has.2

  at : (i : ℕ) → i ≤ v.rows → 0 < v.rows → offset_in bs x i ≡ offset_at (run_of v.node) x n (v.first + i)
  at = offset_is v bs w has (is w has)

  pub offsets_rise : (k : ℕ) → k ≡ v.rows → (i : ℕ) → i ≤ k → offset_in bs x 0 ≤ offset_in bs x i
  offsets_rise k e zero l = omega arith
  offsets_rise k e (suc i) l =
      let some : 0 < v.rows = omega arith in
      let up = rise (suc i) 0 (λ j. offset_at (run_of v.node) x n (v.first + j))
      (slot_rises (run_of v.node) x n _ rising v.first (suc i) (omega (arith, v.inside))) (omega arith) in
      omega (arith, at 0 (omega arith) some, at (suc i) (omega arith) some, up)

  -- each less the first, they are the running sums of the counts
  pub offsets_made : (k : ℕ) → k ≡ v.rows → le_all x (rows (k + 1) (λ i. offset_in bs x i - offset_in bs x 0)) ≡ offsets_in x v
  offsets_made zero e =
      let one : zero + 1 ≡ 1 = omega arith in
      ap (λ (j : ℕ). le_all x (rows j (λ i. offset_in bs x i - offset_in bs x 0))) one
      ∙ ap (λ (d : ℕ). le x d ++ []) (sub_self (offset_in bs x 0))
      ∙ ap (λ (c : ℕ). offset_bytes x (rows c (λ r. count_at (run_of v.node) x n (v.first + r)))) e
  offsets_made (suc k) e =
      let some : 0 < v.rows = omega arith in
      let first : v.first + 0 ≡ v.first = omega arith in
      let next : suc k + 1 ≡ suc v.rows = omega arith in
      ap (le_all x)
      (ap (λ (j : ℕ). rows j (λ i. offset_in bs x i - offset_in bs x 0)) next
      ∙ rows_same (suc v.rows) (λ i. offset_in bs x i - offset_in bs x 0) (λ i. offset_at (run_of v.node) x n (v.first + i) - offset_at (run_of v.node) x n v.first)
      (λ i l. ap₂ ◌-◌ (at i (omega arith) some) (at 0 (omega arith) some ∙ ap (offset_at (run_of v.node) x n) first))
      ∙ sym ((places.copied (run_of v.node) x n v.first v.rows).offsets _ rising v.inside))

-- where a window's strings begin is a place of the recording
pub strings_within : (v : Window) (w : Width) (a c : ℕ) → HasStrings (numbers_of v.node) w → AreContents v a c → (numbers_of v.node).«data» + (a + c) ≤ 4294967295
strings_within v w a c (k, is, o, d) t =
    omega (arith, t.bound k is, reach_is k (table_of v.node) v.node.index d, (rules_at v.node Place).strings k is d, v.node.recording.opened.1)

pub length-offsets : (v : Window) (w : Width) → length (offsets_in (wide w) v) ≡ (v.rows + 1) * wide w
length-offsets v w =
    let counts : List ℕ = rows v.rows (λ r. count_at (run_of v.node) (wide w) (numbers_of v.node) (v.first + r)) in
    length-le_all (wide w) (offsets 0 counts)
    ∙ ap (λ (k : ℕ). k * wide w) (round.length-offsets 0 counts ∙ omega (arith, length-rows v.rows (λ r. count_at (run_of v.node) (wide w) (numbers_of v.node) (v.first + r))))
