-- How the exits are spelled that are no label.
use Prim.Native.String.{String}

abbrev pub done_word : String
done_word = "DONE"

abbrev pub fail_word : String
fail_word = "FAIL"
