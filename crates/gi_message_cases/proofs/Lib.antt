mod RecordsLaws
