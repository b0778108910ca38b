use Rattle.std.proofs.Common.{◌≡◌, ◌+◌, List, ◌++◌, All, sym, ◌∙◌, subst, rules, arith}
use Rattle.std.proofs.lemmas.List.Elements.{All-head, All-rest}
use Rattle.layout.specs.declared.kind.Kind.{Kind}
use Rattle.layout.specs.declared.kind.Kind.TheVariants.{List32, List64, Struct}
use Rattle.layout.specs.Rules.{Is}
use Rattle.layout.specs.Windows as layout
use Rattle.layout.specs.Windows.{shown_in, passed_to}
use Rattle.recording.specs.declared.window.Window.{Window}
use Rattle.recording.specs.NodeRefs.{numbers_of}
use Rattle.recording.specs.Passing.{windows_left, IsSmaller}
use Rattle.recording.specs.Windows.{window_in}
use Rattle.columns.specs.declared.writer.IpcMessageWriter.{IpcMessageWriter}
use Rattle.columns.specs.Buffers.{offsets_of, own_buffers, windows_below}
use Rattle.columns.specs.Pieces.{pieces_side, fields_side}
use Rattle.columns.specs.Writing.{Sends, RoomFor}
use Rattle.columns.proofs.Writing.{Left, left_all, left_room, left_next, left_none, kind_is, node_room, validity_room, contents_room, window_sent, child_room, list_sent}
use Rattle.columns.proofs.writer.IpcMessageWriter.+write.Goals as goal

-- ---- the children of a Struct

pub write_children-loop-child-init : goal.write_children-loop-child-init
write_children-loop-child-init t c =
    let w = c.args.window.now in
    let e = c.children-child-items.ensures in
    let ws : List layout.Window = windows_left c.into_iter-child-iterator.result in
    let same : windows_left c.children-child-items.result ≡ ws = search rules in
    let below : windows_below Struct w ≡ ws = sym (e.windows Struct c.requires.kind) ∙ same in
    record {
      left = subst (λ (us : List layout.Window). Left (windows_below Struct w) us c.args.self.now c.args.self.now) below (left_all (windows_below Struct w) c.args.self.now c.requires.room);
      smaller = subst (All (IsSmaller w)) same e.smaller;
    }

pub write_children-write_array_data-requires : goal.write_children-write_array_data-requires
write_children-write_array_data-requires t c =
    let w = c.args.window.now in
    let left = windows_left c.loop-child.child-iterator in
    let rest = windows_left c.next.new.self in
    let smaller = All-head (IsSmaller w) (window_in c.in-Some.child) rest (subst (All (IsSmaller w)) c.in-Some.ensures.steps c.loop-child.invariant.smaller) in
    (omega (arith, smaller, c.decreases), left_room (windows_below Struct w) left rest (window_in c.in-Some.child) c.args.self.now c.loop-child.self c.in-Some.ensures.steps c.loop-child.invariant.left)

pub write_children-loop-child-preserved : goal.write_children-loop-child-preserved
write_children-loop-child-preserved t c =
    let w = c.args.window.now in
    let left = windows_left c.loop-child.child-iterator in
    let rest = windows_left c.next.new.self in
    record {
      left = left_next (windows_below Struct w) left rest (window_in c.in-Some.child) c.args.self.now c.loop-child.self c.in-Some.ensures.steps c.loop-child.invariant.left c.write_array_data.new.self c.write_array_data.ensures;
      smaller = All-rest (IsSmaller w) (window_in c.in-Some.child) rest left c.in-Some.ensures.steps c.loop-child.invariant.smaller;
    }

pub write_children-returns : goal.write_children-returns
write_children-returns t c =
    left_none (windows_below Struct c.args.window.now) (windows_left c.loop-child.child-iterator) c.args.self.now c.loop-child.self c.in-None.ensures.steps.0 c.loop-child.invariant.left

-- ---- a window

pub write_array_data-push_node-requires-clause-room : goal.write_array_data-push_node-requires-clause-room
write_array_data-push_node-requires-clause-room t c = node_room c.args.window.now c.kind-kind.result (kind_is c.kind-kind.result c.node.ensures c.kind-kind.ensures) c.args.self.now c.requires

pub write_array_data-write_validity-requires : goal.write_array_data-write_validity-requires
write_array_data-write_validity-requires t c =
    let is = kind_is c.kind-kind.result c.node.ensures c.kind-kind.ensures in
    record { kind = is; nulls = c.null_count-nulls.ensures; room = validity_room c.args.window.now c.kind-kind.result is c.args.self.now c.requires c.push_node.new.self c.push_node.ensures }

pub write_array_data-write_contents-requires : goal.write_array_data-write_contents-requires
write_array_data-write_contents-requires t c =
    let is = kind_is c.kind-kind.result c.node.ensures c.kind-kind.ensures in
    let room = contents_room c.args.window.now c.kind-kind.result is c.args.self.now c.requires c.push_node.new.self c.push_node.ensures c.write_validity.new.self c.write_validity.ensures in
    (omega (arith, c.decreases), (is, room))

pub write_array_data-returns : goal.write_array_data-returns
write_array_data-returns t c =
    let is = kind_is c.kind-kind.result c.node.ensures c.kind-kind.ensures in
    window_sent c.args.window.now c.kind-kind.result is c.args.self.now c.requires c.push_node.new.self c.push_node.ensures c.write_validity.new.self c.write_validity.ensures c.write_contents.new.self c.write_contents.ensures

-- ---- what comes after its validity

-- a List32

room-List32 : (v : Window) (k : Kind) (a : IpcMessageWriter) → k ≡ List32 → RoomFor (fields_side (windows_below k v)) (own_buffers k v ++ pieces_side (windows_below k v)) a
    → RoomFor (fields_side (windows_below List32 v)) (own_buffers List32 v ++ pieces_side (windows_below List32 v)) a
room-List32 v k a e r = subst (λ (k : Kind). RoomFor (fields_side (windows_below k v)) (own_buffers k v ++ pieces_side (windows_below k v)) a) e r

pub write_contents-write_array_data-requires : goal.write_contents-write_array_data-requires
write_contents-write_array_data-requires t c =
    let v = c.args.window.now in
    let is = subst (Is (numbers_of v.node)) c.in-List32.is c.requires.kind in
    let sent = c.write_list_offsets-child.ensures in
    let room = child_room (offsets_of 4 v) (passed_to List32 (window_in v) (v.node.index + 1)) c.args.self.now c.write_list_offsets-child.new.self
    (room-List32 v c.args.kind c.args.self.now c.in-List32.is c.requires.room) sent.sends (window_in c.write_list_offsets-child.result) (sent.child List32 is) in
    (omega (arith, sent.smaller, c.decreases), room)

pub write_contents-returns-in-List32 : goal.write_contents-returns-in-List32
write_contents-returns-in-List32 t c =
    let v = c.args.window.now in
    let is = subst (Is (numbers_of v.node)) c.in-List32.is c.requires.kind in
    let sent = c.write_list_offsets-child.ensures in
    subst (λ (k : Kind). Sends (fields_side (windows_below k v)) (own_buffers k v ++ pieces_side (windows_below k v)) c.args.self.now c.write_array_data.new.self) (sym c.in-List32.is)
    (list_sent (offsets_of 4 v) (passed_to List32 (window_in v) (v.node.index + 1)) c.args.self.now c.write_list_offsets-child.new.self
    (room-List32 v c.args.kind c.args.self.now c.in-List32.is c.requires.room) sent.sends (window_in c.write_list_offsets-child.result) (sent.child List32 is) c.write_array_data.new.self c.write_array_data.ensures)

-- a List64

room-List64 : (v : Window) (k : Kind) (a : IpcMessageWriter) → k ≡ List64 → RoomFor (fields_side (windows_below k v)) (own_buffers k v ++ pieces_side (windows_below k v)) a
    → RoomFor (fields_side (windows_below List64 v)) (own_buffers List64 v ++ pieces_side (windows_below List64 v)) a
room-List64 v k a e r = subst (λ (k : Kind). RoomFor (fields_side (windows_below k v)) (own_buffers k v ++ pieces_side (windows_below k v)) a) e r

pub write_contents-write_array_data-requires-in-List64 : goal.write_contents-write_array_data-requires-in-List64
write_contents-write_array_data-requires-in-List64 t c =
    let v = c.args.window.now in
    let is = subst (Is (numbers_of v.node)) c.in-List64.is c.requires.kind in
    let sent = c.write_list_offsets-child-in-List64.ensures in
    let room = child_room (offsets_of 8 v) (passed_to List64 (window_in v) (v.node.index + 1)) c.args.self.now c.write_list_offsets-child-in-List64.new.self
    (room-List64 v c.args.kind c.args.self.now c.in-List64.is c.requires.room) sent.sends (window_in c.write_list_offsets-child-in-List64.result) (sent.child List64 is) in
    (omega (arith, sent.smaller, c.decreases), room)

pub write_contents-returns-in-List64 : goal.write_contents-returns-in-List64
write_contents-returns-in-List64 t c =
    let v = c.args.window.now in
    let is = subst (Is (numbers_of v.node)) c.in-List64.is c.requires.kind in
    let sent = c.write_list_offsets-child-in-List64.ensures in
    subst (λ (k : Kind). Sends (fields_side (windows_below k v)) (own_buffers k v ++ pieces_side (windows_below k v)) c.args.self.now c.write_array_data-in-List64.new.self) (sym c.in-List64.is)
    (list_sent (offsets_of 8 v) (passed_to List64 (window_in v) (v.node.index + 1)) c.args.self.now c.write_list_offsets-child-in-List64.new.self
    (room-List64 v c.args.kind c.args.self.now c.in-List64.is c.requires.room) sent.sends (window_in c.write_list_offsets-child-in-List64.result) (sent.child List64 is) c.write_array_data-in-List64.new.self c.write_array_data-in-List64.ensures)
