-- What is printed of a node, of a dictionary that a batch meets, and of a message.
use Rattle.std.specs.Prelude.{ℕ, List, ◌++◌, codes, decimal, Some, None, Option}
use Rattle.std.specs.Fmt.{signed_decimal}
use Rattle.std.specs.List.{flat_map}
use Rattle.columns.specs.declared.message.Message.{Message}
use Rattle.columns.specs.declared.message.MessageKind.{MessageKind}
use Rattle.columns.specs.declared.message.MessageKind.TheVariants.{Batch, Dictionary, Delta}
use Rattle.columns.specs.declared.record.BufferEntry.{BufferEntry}
use Rattle.columns.specs.declared.record.BufferRecord.{BufferRecord}
use Rattle.columns.specs.declared.record.FieldRecord.{FieldRecord}
use Rattle.dictionaries.specs.declared.update.DictionaryToEncode.{DictionaryToEncode}
use Rattle.dictionaries.specs.Sending.{update_name}
use Rattle.pack.specs.declared.message.MessageLine.{MessageLine}
use Rattle.pack.specs.declared.show.NodeLine.{NodeLine}
use Rattle.pack.specs.declared.update.UpdateLine.{UpdateLine}

abbrev pub node_shown : NodeLine → List ℕ
node_shown l =
    codes "node " ++ (decimal l.index ++ (codes " depth " ++ (decimal l.depth
    ++ (codes " kind " ++ (decimal l.node.kind ++ (codes " mark " ++ (decimal l.node.mark
    ++ (codes " size " ++ (decimal l.node.size ++ (codes " rows " ++ (decimal l.node.rows
    ++ (codes " from " ++ (decimal l.node.from ++ (codes " span " ++ (decimal l.node.span
    ++ (codes " nulls " ++ decimal l.nulls))))))))))))))))

-- how many rows are sent, if any are
abbrev pub rows_in : Option DictionaryToEncode → ℕ
rows_in None = 0
rows_in (Some sent) = sent.rows

abbrev pub update_shown : UpdateLine → List ℕ
update_shown l =
    codes "update " ++ (decimal l.id ++ (codes " id " ++ (decimal l.id
    ++ (codes " column " ++ (decimal l.column ++ (codes " node " ++ (decimal l.node
    ++ (codes " " ++ (update_name l.update ++ (codes " rows " ++ decimal l.rows))))))))))

abbrev pub kind_name : MessageKind → List ℕ
kind_name Batch = codes "batch"
kind_name Dictionary = codes "dictionary"
kind_name Delta = codes "delta"

abbrev pub field_shown : FieldRecord → List ℕ
field_shown f = codes " (" ++ (signed_decimal f.rows ++ (codes "," ++ (signed_decimal f.nulls ++ codes ")")))

abbrev pub fields_shown : List FieldRecord → List ℕ
fields_shown fs = flat_map field_shown fs

abbrev pub buffer_shown : BufferRecord → List ℕ
buffer_shown b = codes " (" ++ (signed_decimal b.offset ++ (codes "," ++ (signed_decimal b.length ++ codes ")")))

abbrev pub buffers_shown : List BufferEntry → List ℕ
buffers_shown es = flat_map (λ e. buffer_shown e.buffer) es

-- what comes before the records
abbrev pub head_shown : ℕ → Message → List ℕ
head_shown i m =
    codes "message " ++ (decimal i ++ (codes " kind " ++ (kind_name m.kind
    ++ (codes " id " ++ (decimal m.id ++ (codes " rows " ++ (decimal m.rows
    ++ (codes " body " ++ decimal m.lengths.1))))))))

abbrev pub message_shown : MessageLine → List ℕ
message_shown l =
    head_shown l.index l.message
    ++ (codes " fields" ++ (fields_shown l.fields.0.now ++ (codes " buffers" ++ buffers_shown l.buffers.0.now)))

-- of a message whose frame is written, with the lengths of its header and of its body
abbrev pub framed_shown : MessageLine → List ℕ
framed_shown l =
    head_shown l.index l.message
    ++ (codes " lengths " ++ (decimal l.message.lengths.0 ++ (codes " " ++ (decimal l.message.lengths.1
    ++ (codes " fields" ++ (fields_shown l.fields.0.now ++ (codes " buffers" ++ buffers_shown l.buffers.0.now)))))))
