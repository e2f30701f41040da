mod LastFound
