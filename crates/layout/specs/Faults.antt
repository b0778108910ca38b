-- The refusals: which number each has, and what is said of it.
use Rattle.std.specs.Prelude.{ℕ, List, ◌++◌, codes, decimal}
use Rattle.layout.specs.declared.fault.Fault.{Fault}
use Rattle.layout.specs.declared.fault.Refusal.{Refusal}
use Rattle.layout.specs.declared.fault.Refusal.TheVariants.{Alignment, NodeBytes, TooLarge, KindOrSize, Nesting, Place, Offset, Key, Ended, Column, DictionaryAboveDictionary, NoId, Replacement, Memory, Rows, Header, Sink, Ids}

abbrev pub refusal_number : Refusal → ℕ
refusal_number Alignment = 1
refusal_number NodeBytes = 2
refusal_number TooLarge = 3
refusal_number KindOrSize = 4
refusal_number Nesting = 5
refusal_number Place = 6
refusal_number Offset = 7
refusal_number Key = 8
refusal_number Ended = 9
refusal_number Column = 10
refusal_number DictionaryAboveDictionary = 11
refusal_number NoId = 12
refusal_number Replacement = 13
refusal_number Memory = 14
refusal_number Rows = 15
refusal_number Header = 16
refusal_number Sink = 17
refusal_number Ids = 18

abbrev pub fault_of : Refusal → ℕ → ℕ → Fault
fault_of r c k = record { refusal = r; column = c; node = k }

-- ---- in words

abbrev pub sentence_of : Refusal → List ℕ
sentence_of Alignment = codes "the alignment is not 8, 16, 32 or 64"
sentence_of NodeBytes = codes "the node bytes are no multiple of 80"
sentence_of TooLarge = codes "there are over 65,535 nodes or 4,294,967,295 bytes"
sentence_of KindOrSize = codes "the kind or the size is outside the table, or from + rows is above 2,147,483,647"
sentence_of Nesting = codes "the span, the children or the depth is not as the kind asks"
sentence_of Place = codes "a place plus what is needed there is past the bytes"
sentence_of Offset = codes "an offset is negative, falls, or passes the extent or the child's rows"
sentence_of Key = codes "a valid row's key is negative or not below the child's rows"
sentence_of Ended = codes "the stream has ended"
sentence_of Column = codes "a column is no node, or has other rows"
sentence_of DictionaryAboveDictionary = codes "a dictionary stands above a dictionary"
sentence_of NoId = codes "no id is left"
sentence_of Replacement = codes "a dictionary would be replaced"
sentence_of Memory = codes "a lent memory is too short"
sentence_of Rows = codes "the rows are above 2,147,483,647"
sentence_of Header = codes "the header form has no header"
sentence_of Sink = codes "the sink has too little room"
sentence_of Ids = codes "all 64 ids are given out"

-- a fault by its numbers
abbrev pub fault_shown : Fault → List ℕ
fault_shown f = codes "fault " ++ (decimal (refusal_number f.refusal) ++ (codes " column " ++ (decimal f.column ++ (codes " node " ++ decimal f.node))))
