-- A window is written, and what is below it.
use Rattle.std.proofs.Common.{◌≡◌, ◌<◌, List, [], ◌∷◌, ◌++◌, length, sym, subst, arith}
use Rattle.layout.specs.declared.kind.Kind.{Kind}
use Rattle.layout.specs.Messages.{own_field}
use Rattle.layout.specs.Rules.{Is}
use Rattle.layout.specs.Windows as layout
use Rattle.layout.specs.Windows.{shown_in}
use Rattle.recording.specs.declared.node.NodeRef.{NodeRef}
use Rattle.recording.specs.declared.window.Window.{Window}
use Rattle.recording.specs.NodeRefs.{numbers_of}
use Rattle.recording.specs.Windows.{window_in}
use Rattle.columns.specs.declared.record.FieldRecord.{FieldRecord}
use Rattle.columns.specs.declared.writer.IpcMessageWriter.{IpcMessageWriter}
use Rattle.columns.specs.Buffers.{validity_of, own_buffers, windows_below}
use Rattle.columns.specs.Pieces.{Piece, field_record, pieces_in, pieces_side, fields_in, fields_side}
use Rattle.columns.specs.Writing.{lent_nodes, Sends, RoomFor}
use Rattle.columns.proofs.Parts.{fields_parts, pieces_parts}
use Rattle.columns.proofs.Sending.{sends_none, sends_more, room_first, room_next}

-- ---- windows one after another

-- there is room for the windows that are left, and once they are written all are
pub record Left (all left : List layout.Window) (first now : IpcMessageWriter) : Type 0 where
  pub room : RoomFor (fields_side left) (pieces_side left) now
  pub whole : (last : IpcMessageWriter) → Sends (fields_side left) (pieces_side left) now last → Sends (fields_side all) (pieces_side all) first last

pub left_all : (ws : List layout.Window) (a : IpcMessageWriter) → RoomFor (fields_side ws) (pieces_side ws) a → Left ws ws a a
left_all ws a r = record { room = r; whole = λ last s. s }

module _ (all left rest : List layout.Window) (w : layout.Window) (first now : IpcMessageWriter) (e : left ≡ w ∷ rest) (h : Left all left first now) where
  here : Left all (w ∷ rest) first now
  here = subst (λ (ws : List layout.Window). Left all ws first now) e h

  pub left_room : RoomFor (fields_in w) (pieces_in w) now
  left_room = room_first (fields_in w) (fields_side rest) (pieces_in w) (pieces_side rest) now here.room

  pub left_next : (next : IpcMessageWriter) → Sends (fields_in w) (pieces_in w) now next → Left all rest first next
  left_next next s = record {
    room = room_next (fields_in w) (fields_side rest) (pieces_in w) (pieces_side rest) now next here.room s;
    whole = λ last t. here.whole last (sends_more (fields_in w) (fields_side rest) (pieces_in w) (pieces_side rest) now next last s t);
  }

pub left_none : (all left : List layout.Window) (first now : IpcMessageWriter) → left ≡ [] → Left all left first now → Sends (fields_side all) (pieces_side all) first now
left_none all left first now e h = (subst (λ (ws : List layout.Window). Left all ws first now) e h).whole now (sends_none now)

-- the kind that was read
pub kind_is : {n m : NodeRef} (k : Kind) → n ≡ m → Is (numbers_of n) k → Is (numbers_of m) k
kind_is k e is = subst (λ (n : NodeRef). Is (numbers_of n) k) e is

-- ---- a window: its node, which rows are valid, and what comes after that

module _ (v : Window) (k : Kind) (is : Is (numbers_of v.node) k) (a : IpcMessageWriter) where
  abbrev w : layout.Window
  w = window_in v

  abbrev own : FieldRecord
  own = field_record (own_field (shown_in w))

  abbrev contents : List Piece
  contents = own_buffers k v ++ pieces_side (windows_below k v)

  abbrev below : List FieldRecord
  below = fields_side (windows_below k v)

  module _ (room : RoomFor (fields_in w) (pieces_in w) a) where
    parts_room : RoomFor (own ∷ below) (validity_of k v ++ contents) a
    parts_room =
        subst (λ (fs : List FieldRecord). RoomFor fs (validity_of k v ++ contents) a) (fields_parts v k is)
        (subst (λ (ps : List Piece). RoomFor (fields_in w) ps a) (pieces_parts v k is) room)

    pub node_room : (lent_nodes a).len < length (lent_nodes a).memory
    node_room = omega (arith, parts_room.nodes)

    module _ (b : IpcMessageWriter) (node : Sends (own ∷ []) [] a b) where
      after_node : RoomFor below (validity_of k v ++ contents) b
      after_node = room_next (own ∷ []) below [] (validity_of k v ++ contents) a b parts_room node

      pub validity_room : RoomFor [] (validity_of k v) b
      validity_room = room_first [] below (validity_of k v) contents b after_node

      module _ (c : IpcMessageWriter) (valid : Sends [] (validity_of k v) b c) where
        pub contents_room : RoomFor below contents c
        contents_room = room_next [] below (validity_of k v) contents b c after_node valid

        pub window_sent : (d : IpcMessageWriter) → Sends below contents c d → Sends (fields_in w) (pieces_in w) a d
        window_sent d s =
            subst (λ (fs : List FieldRecord). Sends fs (pieces_in w) a d) (sym (fields_parts v k is))
            (subst (λ (ps : List Piece). Sends (own ∷ below) ps a d) (sym (pieces_parts v k is))
            (sends_more (own ∷ []) below [] (validity_of k v ++ contents) a b d node (sends_more [] below (validity_of k v) contents b c d valid s)))

-- a list: its offsets, and the window of the child
module _ (p : Piece) (u : layout.Window) (a b : IpcMessageWriter) where
  abbrev ps : List Piece
  ps = p ∷ pieces_side (u ∷ [])

  module _ (room : RoomFor (fields_side (u ∷ [])) ps a) where
    pub offsets_room : RoomFor [] (p ∷ []) a
    offsets_room = room_first [] (fields_side (u ∷ [])) (p ∷ []) (pieces_side (u ∷ [])) a room

    module _ (sends : Sends [] (p ∷ []) a b) (x : layout.Window) (e : x ≡ u) where
      pub child_room : RoomFor (fields_in x) (pieces_in x) b
      child_room =
          subst (λ (y : layout.Window). RoomFor (fields_in y) (pieces_in y) b) (sym e)
          (room_first (fields_in u) [] (pieces_in u) [] b (room_next [] (fields_side (u ∷ [])) (p ∷ []) (pieces_side (u ∷ [])) a b room sends))

      pub list_sent : (c : IpcMessageWriter) → Sends (fields_in x) (pieces_in x) b c → Sends (fields_side (u ∷ [])) ps a c
      list_sent c s =
          sends_more [] (fields_side (u ∷ [])) (p ∷ []) (pieces_side (u ∷ [])) a b c sends
          (sends_more (fields_in u) [] (pieces_in u) [] b c c (subst (λ (y : layout.Window). Sends (fields_in y) (pieces_in y) b c) e s) (sends_none c))
