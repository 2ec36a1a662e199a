use Rattle.sample_files.proofs.Sizes.{length_of_bitmaps, length_of_document, length_of_widths, place_of_page}
use Rattle.sample_files.proofs.laws.lengths.Goals as goal

pub returns-clause-places : goal.returns-clause-places
returns-clause-places c = place_of_page

pub returns-clause-document : goal.returns-clause-document
returns-clause-document c = length_of_document

pub returns-clause-widths : goal.returns-clause-widths
returns-clause-widths c = length_of_widths

pub returns-clause-bitmaps : goal.returns-clause-bitmaps
returns-clause-bitmaps c = length_of_bitmaps
